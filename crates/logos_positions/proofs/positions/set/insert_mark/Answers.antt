use Rattle.std.proofs.Common.{sym, ◌∙◌, true≢false}
use Rattle.logos_positions.proofs.steps.MarkLemmas.{IsRising-insert, Has-insert, Has-there}
use Rattle.logos_positions.proofs.positions.set.insert_mark.Goals as goal

pub returns-then-has_mark-clause-has : goal.returns-then-has_mark-clause-has
returns-then-has_mark-clause-has c =
    Has-there c.args.marks.now.items c.args.position (rw c.deref.ensures.value at (c.has_mark.ensures.0 c.if-has_mark.true))

pub returns-clause-rising : goal.returns-clause-rising
returns-clause-rising c =
    let first = rw c.deref-2.ensures.value at c.first_from-i.ensures in
    rw c.in_ok-insert.ensures.items
    (IsRising-insert c.args.marks.now.items c.args.position c.first_from-i.result c.requires first
    (λ lt e. true≢false (sym (c.has_mark.ensures.1 (rw c.deref.ensures.value (record { at = c.first_from-i.result; within = lt; is = e }))) ∙ c.if-has_mark.false)))

pub returns-clause-has : goal.returns-clause-has
returns-clause-has c =
    let first = rw c.deref-2.ensures.value at c.first_from-i.ensures in
    rw c.in_ok-insert.ensures.items (Has-insert c.args.marks.now.items c.args.position c.first_from-i.result c.requires first)
