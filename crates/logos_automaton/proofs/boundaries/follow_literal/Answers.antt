use Rattle.std.proofs.Common.{◌≡◌, ◌+◌, ◌-◌, ◌<◌, ◌==◌, length, slice_index, subst, arith, eqb-true, sym, ◌∙◌}
use Rattle.logos_positions.specs.Marks.{Has}
use Rattle.logos_automaton.proofs.keys.WalkLemmas.{done_first, done_more, goes_spelled, leave_spelled}
use Rattle.logos_automaton.proofs.boundaries.follow_literal.Goals as goal

pub loop-done-init : goal.loop-done-init
loop-done-init c =
    let n = c.next_copy-done.ensures in
    record {
      within = n.bound;
      done = done_first _ c.args.marked.now c.next_copy-done.result (λ k x lt has. absurd (n.unmarked k (omega arith) (omega (arith, lt)) has));
    }

pub loop-done-preserved : goal.loop-done-preserved
loop-done-preserved c =
    let n = c.next_copy-done-in-loop-done.ensures in
    let text = c.args.text.now in
    let done = c.loop-done.done in
    record {
      within = n.bound;
      done = done_more (λ k x y. Has c.args.marks.now (c.args.base + k) → k + 1 < length text → (x == slice_index text (k + 1)) ≡ (y == slice_index text (k + 1)))
          (λ x y. done + 1 < length text → (x == slice_index text (done + 1)) ≡ (y == slice_index text (done + 1))) c.args.marked.now c.loop-done.marked _ done
          c.next_copy-done-in-loop-done.result (λ x same has. same) (λ k x above below one has. absurd (n.unmarked k (omega (arith, above)) (omega (arith, below)) has)) c.mark_at.ensures c.loop-done.invariant.done;
    }

pub returns-then-is_empty-clause-marks : goal.returns-then-is_empty-clause-marks
returns-then-is_empty-clause-marks c = λ x lt unmarked.
    let i = c.loop-done.invariant in
    let d = i.done.done x lt unmarked in
    (d.0, goes_spelled c.args.text.now _ x (x + 1) (λ k has below. d.1 k (omega (arith, below, i.within, c.loop-done-test.false)) has below))

pub returns-then-is_empty-clause-leaves : goal.returns-then-is_empty-clause-leaves
returns-then-is_empty-clause-leaves c = λ h.
    let l = leave_spelled c.args.text.now _ h in
    let none : length c.args.text.now ≡ 0 = eqb-true _ _ (sym c.is_empty.ensures ∙ c.if-is_empty.true) in
    absurd (omega (arith, l.1, none))

pub returns-clause-marks : goal.returns-clause-marks
returns-clause-marks c = λ x lt unmarked.
    let i = c.loop-done.invariant in
    let d = i.done.done x lt unmarked in
    (d.0, goes_spelled c.args.text.now _ x (x + 1) (λ k has below. d.1 k (omega (arith, below, i.within, c.loop-done-test.false)) has below))

pub returns-clause-leaves : goal.returns-clause-leaves
returns-clause-leaves c = λ h.
    let l = leave_spelled c.args.text.now _ h in
    let e : c.args.base + l.0 ≡ c.args.base + (length c.args.text.now - 1) = omega (arith, l.1) in
    c.has_mark.ensures.1 (subst (Has c.args.marks.now) e l.2)
