use Rattle.std.proofs.Common.{◌≡◌, ◌+◌, ◌==◌, false, drop, get_or, [], refl, arith}
use Rattle.std.proofs.Math.ListN.{drop_of_length-le}
use Rattle.logos_positions.specs.Core.{empty}
use Rattle.logos_positions.specs.Repeat.{spelled}
use Rattle.logos_positions.specs.inside.Stepped.{Owes}
use Rattle.logos_positions.proofs.steps.SteppedLemmas.{owes_all, owes_done, stepped_empty}
use Rattle.logos_positions.proofs.steps.OweLemmas.{owes_spelled_step, owes_spelled_skip}
use Rattle.logos_positions.proofs.positions.step.step_literal.Goals as goal

pub loop-done-init : goal.loop-done-init
loop-done-init c =
    let n = c.next_copy-done.ensures in
    let e : c.args.spot.base + 0 ≡ c.args.spot.base = omega arith in
    record {
      within = n.bound;
      owes = λ test. owes_spelled_skip test c.args.by.byte c.args.by.marks.now (spelled c.args.text.now) c.args.next.now.items c.args.spot.base c.args.spot.entered
          c.args.text.now 0 c.next_copy-done.result c.args.next.now.items c.args.spot.entered false n.after n.bound n.stays n.unmarked
          (rw e (owes_all test c.args.by.byte c.args.by.marks.now (spelled c.args.text.now) c.args.next.now.items c.args.spot.base c.args.spot.entered c.requires.set));
    }

pub step_byte-requires-clause-set : goal.step_byte-requires-clause-set
step_byte-requires-clause-set c = (c.loop-done.invariant.owes (λ l. false)).set

pub loop-done-preserved : goal.loop-done-preserved
loop-done-preserved c =
    let n = c.next_copy-done-in-loop-done.ensures in
    record {
      within = n.bound;
      owes = λ test. owes_spelled_skip test c.args.by.byte c.args.by.marks.now (spelled c.args.text.now) c.args.next.now.items c.args.spot.base c.args.spot.entered
          c.args.text.now (c.loop-done.done + 1) c.next_copy-done-in-loop-done.result _ c.in_ok-left.left false n.after n.bound n.stays n.unmarked
          (owes_spelled_step test c.args.by.byte c.args.by.marks.now (spelled c.args.text.now) c.args.next.now.items c.args.spot.base c.args.spot.entered
          c.args.text.now c.loop-done.done c.loop-done.next.items _ c.loop-done.left c.in_ok-left.left false c.loop-done-test.true
          (c.loop-done.invariant.owes test)
          (c.in_ok-left.ensures (λ y. y == get_or c.args.text.now c.loop-done.done 0) test refl));
    }

pub returns : goal.returns
returns c = λ test.
    let past : drop c.loop-done.done c.args.text.now ≡ [] = drop_of_length-le c.args.text.now c.loop-done-test.false in
    let o : Owes (spelled c.args.text.now) empty test c.args.by.byte c.args.by.marks.now c.args.next.now.items c.loop-done.next.items c.args.spot.base (c.args.spot.base + c.loop-done.done) c.args.spot.entered c.loop-done.left false = rw past at c.loop-done.invariant.owes test in
    owes_done test c.args.by.byte c.args.by.marks.now (spelled c.args.text.now) c.args.next.now.items c.args.spot.base c.args.spot.entered
    empty c.loop-done.next.items c.loop-done.next.items (c.args.spot.base + c.loop-done.done) c.loop-done.left c.loop-done.left false o
    (stepped_empty test c.args.by.byte c.args.by.marks.now c.loop-done.next.items (c.args.spot.base + c.loop-done.done) c.loop-done.left o.set)
