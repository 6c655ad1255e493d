use Rattle.std.proofs.Common.{◌≡◌, ◌+◌, arith}
use Rattle.logos_positions.specs.Marks.{Has}
use Rattle.logos_positions.specs.Table.{reader_of}
use Rattle.logos_automaton.proofs.keys.WalkLemmas.{done_first, done_more}
use Rattle.logos_automaton.proofs.boundaries.mark_rows.Goals as goal

pub loop-row-init : goal.loop-row-init
loop-row-init c =
    let n = c.next_copy-row.ensures in
    record {
      within = n.bound;
      done = done_first _ c.args.marked.now c.next_copy-row.result (λ k x lt has. absurd (n.unmarked k (omega arith) (omega (arith, lt)) has));
    }

pub loop-row-preserved : goal.loop-row-preserved
loop-row-preserved c =
    let n = c.next_copy-row-in-loop-row.ensures in
    let r = reader_of c.args.table.now in
    let row = c.loop-row.row in
    record {
      within = n.bound;
      done = done_more (λ k x y. Has c.args.marks.now (c.args.base + k) → r.follow k x ≡ r.follow k y) (λ x y. r.follow row x ≡ r.follow row y) c.args.marked.now c.loop-row.marked _ row
          c.next_copy-row-in-loop-row.result (λ x same has. same) (λ k x above below one has. absurd (n.unmarked k (omega (arith, above)) (omega (arith, below)) has)) c.mark_row.ensures c.loop-row.invariant.done;
    }

pub returns : goal.returns
returns c = λ x lt unmarked.
    let i = c.loop-row.invariant in
    let d = i.done.done x lt unmarked in
    let some = c.args.table.now.some in
    (d.0, λ q le has. d.1 q (omega (arith, le, some, i.within, c.loop-row-test.false)) has)
