use Rattle.std.proofs.Common.{Vec, Global, vec_len, slice_index, ap, arith}
use Rattle.logos_reduce.specs.declared.table.StateMarks.{StateMarks}
use Rattle.logos_reduce.proofs.numbering.VisitLemmas.{in_order}
use Rattle.logos_reduce.proofs.whole.EndLemmas.{least, evidence}
use Rattle.logos_reduce.proofs.whole.UseLemmas.{spareless}
use Rattle.logos_reduce.proofs.reduction.reduce.Goals as goal

pub number-requires-clause-root_in : goal.number-requires-clause-root_in
number-requires-clause-root_in c =
    let e = ap (λ (v : Vec StateMarks Global). vec_len v) c.in_ok-pruned.ensures.marks in
    omega (arith, e, c.in_ok-settled.ensures.states, c.requires)

pub returns-clause-made : goal.returns-clause-made
returns-clause-made c = record {
  marked = c.in_ok-settled.settled;
  settled = c.in_ok-settled.ensures;
  useful = c.in_ok-pruned.pruned;
  pruned = c.in_ok-pruned.ensures;
  block = slice_index c.in_ok-merged.merged.blocks.of.items;
  leader = slice_index c.in_ok-merged.merged.leaders.items;
  merged = c.in_ok-merged.ensures.merged;
  numbered = c.in_ok-numbered.ensures;
}

pub returns-clause-least : goal.returns-clause-least
returns-clause-least c = least c.args.table c.args.root _ (returns-clause-made c) c.requires

pub returns-clause-in_order : goal.returns-clause-in_order
returns-clause-in_order c =
    let merged = c.in_ok-merged.merged in
    in_order c.in_ok-pruned.pruned c.in_ok-numbered.numbered.table (slice_index merged.blocks.of.items) (slice_index merged.leaders.items) c.args.root c.in_ok-numbered.numbered.states.items c.in_ok-numbered.ensures

pub returns-clause-spareless : goal.returns-clause-spareless
returns-clause-spareless c = spareless c.args.table c.args.root _ (returns-clause-made c)

pub returns-clause-evidence : goal.returns-clause-evidence
returns-clause-evidence c = evidence c.args.table c.args.root _ (returns-clause-made c)
