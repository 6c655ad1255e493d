use Rattle.std.proofs.Common.{◌≡◌, ◌+◌, ◌-◌, ◌≤◌, length, slice_index, leb-true, arith}
use Rattle.logos_positions.proofs.steps.AlikeLemmas.{marked_alike, next_first}
use Rattle.logos_positions.proofs.positions.set.is_marked_alike.Goals as goal

pub returns-then-at-i-2-clause-same : goal.returns-then-at-i-2-clause-same
returns-then-at-i-2-clause-same c = λ yes.
    let a = c.args in
    let r = c.requires in
    let i = c.loop-i.invariant in
    let all : a.to - a.from ≡ c.loop-i.i = omega (arith, i.few, c.loop-i-test.false) in
    let last : a.at + c.loop-i.i ≡ length a.marks.now = c.if-at-i-2.true in
    marked_alike a.marks.now r.rising a.copies.base a.copies.each a.from a.to a.at a.shift r.order r.from r.to r.at
    (omega (arith, all, i.within)) (rw all i.same) (λ lt. absurd (omega (arith, all, last, lt)))

pub returns-then-at-i-2-clause-next : goal.returns-then-at-i-2-clause-next
returns-then-at-i-2-clause-next c = λ yes.
    let a = c.args in
    let r = c.requires in
    let i = c.loop-i.invariant in
    let all : a.to - a.from ≡ c.loop-i.i = omega (arith, i.few, c.loop-i-test.false) in
    let last : a.at + c.loop-i.i ≡ length a.marks.now = c.if-at-i-2.true in
    next_first a.marks.now r.rising a.copies.base a.copies.each a.from a.to a.at a.shift r.order r.from r.to r.at
    (omega (arith, all, i.within)) (rw all i.same) (λ lt. absurd (omega (arith, all, last, lt)))

pub returns-clause-same : goal.returns-clause-same
returns-clause-same c = λ yes.
    let a = c.args in
    let r = c.requires in
    let i = c.loop-i.invariant in
    let all : a.to - a.from ≡ c.loop-i.i = omega (arith, i.few, c.loop-i-test.false) in
    let ends : a.copies.base + a.shift + a.copies.each ≤ slice_index a.marks.now (a.at + c.loop-i.i) = leb-true _ _ yes in
    marked_alike a.marks.now r.rising a.copies.base a.copies.each a.from a.to a.at a.shift r.order r.from r.to r.at
    (omega (arith, all, i.within)) (rw all i.same) (λ lt. rw all ends)

pub returns-clause-next : goal.returns-clause-next
returns-clause-next c = λ yes.
    let a = c.args in
    let r = c.requires in
    let i = c.loop-i.invariant in
    let all : a.to - a.from ≡ c.loop-i.i = omega (arith, i.few, c.loop-i-test.false) in
    let ends : a.copies.base + a.shift + a.copies.each ≤ slice_index a.marks.now (a.at + c.loop-i.i) = leb-true _ _ yes in
    next_first a.marks.now r.rising a.copies.base a.copies.each a.from a.to a.at a.shift r.order r.from r.to r.at
    (omega (arith, all, i.within)) (rw all i.same) (λ lt. rw all ends)
