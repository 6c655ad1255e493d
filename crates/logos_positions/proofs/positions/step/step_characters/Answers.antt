use Rattle.std.proofs.Common.{◌≡◌, ℕ, suc, ◌+◌, ◌-◌, ◌<◌, ◌≤◌, List, length, slice_index, arith}
use Rattle.logos_positions.specs.Table.{reader_of}
use Rattle.logos_positions.proofs.steps.CharStepLemmas.{StartsFrom, followed_more, followed_all, marks_past}
use Rattle.logos_positions.proofs.positions.step.step_characters.Goals as goal

above_base : (xs : List ℕ) (base i : ℕ) → StartsFrom xs base i → i < length xs → base ≤ slice_index xs i
above_base xs base i s lt = s.first.above i s.reached lt

size_of : (rows : ℕ) → 0 < rows → rows ≡ suc (rows - 1)
size_of rows some = omega arith

pub loop-i-preserved : goal.loop-i-preserved
loop-i-preserved c =
    let i = c.loop-i.invariant in
    let s = i.starts in
    let r = reader_of c.args.table.now in
    let size = size_of c.args.table.now.rows c.args.table.now.some in
    record {
      starts = record { from = s.from; first = s.first; reached = omega (arith, s.reached); within = omega arith };
      set = c.in_ok-insert_row-2.ensures.set;
      followed = followed_more r c.args.by.byte c.args.by.marks.now c.args.next.now.items c.args.spot.base c.args.spot.entered
          c.loop-i.next.items _ c.loop-i.i c.args.table.now.rows size c.loop-i-test.true
          (above_base c.args.by.marks.now c.args.spot.base c.loop-i.i s c.loop-i-test.true) c.if-marks-i.true i.followed
          (rw c.follow.ensures at c.in_ok-insert_row-2.ensures.has);
    }

high_of : (base m rows : ℕ) → base ≤ m → rows ≤ m - base → base + rows ≤ m
high_of base m rows le h = omega arith

pub returns-else-marks-i : goal.returns-else-marks-i
returns-else-marks-i c = λ test.
    let i = c.loop-i.invariant in
    let size = size_of c.args.table.now.rows c.args.table.now.some in
    followed_all (reader_of c.args.table.now) c.args.by.byte c.args.by.marks.now c.args.next.now.items c.args.spot.base c.args.spot.entered test
    c.loop-i.next.items c.loop-i.i c.has_mark-left.result (rw size at i.set)
    (marks_past c.args.by.marks.now _ c.loop-i.i c.requires.rising
    (λ lt. rw (← size) (high_of c.args.spot.base _ c.args.table.now.rows (above_base c.args.by.marks.now c.args.spot.base c.loop-i.i i.starts lt) c.if-marks-i.false)))
    i.followed c.has_mark-left.ensures

pub returns-after-loop-i : goal.returns-after-loop-i
returns-after-loop-i c = λ test.
    let i = c.loop-i.invariant in
    let size = size_of c.args.table.now.rows c.args.table.now.some in
    followed_all (reader_of c.args.table.now) c.args.by.byte c.args.by.marks.now c.args.next.now.items c.args.spot.base c.args.spot.entered test
    c.loop-i.next.items c.loop-i.i c.has_mark-left.result (rw size at i.set)
    (marks_past c.args.by.marks.now _ c.loop-i.i c.requires.rising (λ lt. absurd (omega (arith, lt, c.loop-i-test.false))))
    i.followed c.has_mark-left.ensures
