use Rattle.std.proofs.Common.{rules, ◌≡◌, Bool, false, None, List, slice_index_or, ap, arith}
use Rattle.std.proofs.lemmas.Grind.{common_steps}
use Rattle.logos_reduce.specs.Table.{size}
use Rattle.logos_reduce.proofs.tables.PushLemmas.{filled}
use Rattle.logos_reduce.proofs.settling.MarkLemmas.{needed_more, needed_none}
use Rattle.logos_reduce.proofs.settle.needed_marks.Goals as goal

pub loop-s-init : goal.loop-s-init
loop-s-init c =
    let h = c.in_ok-needed.ensures.items_if_clones_equal (λ y e. e) in
    (search rules, needed_none c.args.table.now c.args.early.now.items c.in_ok-needed.needed.items (λ t f. let o = filled c.len.result t false in let z = ap (λ (xs : List Bool). slice_index_or xs t false) h in cc))

pub loop-s-preserved : goal.loop-s-preserved
loop-s-preserved c =
    let e : c.index.result.now ≡ slice_index_or c.args.early.now.items c.loop-s.s None = grind (arith, common_steps) in (
      omega arith,
      needed_more c.args.table.now c.args.early.now.items c.loop-s.s c.loop-s.needed.items c.note_targets.new.needed.items c.loop-s.invariant.1
          c.note_targets.ensures.stays (rw e at c.note_targets.ensures.needed) (rw e at c.note_targets.ensures.spare),
    )

pub returns-clause-needed : goal.returns-clause-needed
returns-clause-needed c = let e : c.loop-s.s ≡ size c.args.table.now = omega arith in rw e at c.loop-s.invariant.1
