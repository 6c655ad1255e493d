use Rattle.std.proofs.Common.{slice_index, ◌≡◌, ◌≤◌, ◌+◌, ◌-◌, ◌*◌, inr, ⊎_elim, Bool, ◌||◌, IsTrue, true, false, not, refl, true≢false, sym, ap, ◌∙◌, arith, rules, ◌<◌, ◌^◌}
use Rattle.logos_positions.specs.Core as core
use Rattle.logos_positions.specs.Core.{width}
use Rattle.logos_positions.specs.Kinds.{test_at}
use Rattle.logos_positions.specs.Marks.{IsFirstFrom}
use Rattle.logos_positions.specs.Node.{core_of}
use Rattle.logos_positions.specs.Repeat.{count_of, up_to}
use Rattle.logos_positions.specs.declared.node.Node.{the_lemmas}
use Rattle.logos_positions.proofs.trees.NodeLemmas.{core-Void, core-Empty, core-Literal, core-Bytes, core-Characters, core-Look, core-Cat, core-Alt, core-Repeat, width-Literal, width-Cat, width-Alt, pair-Cat, pair-Alt, repeat-Repeat, width-Repeat}
use Rattle.logos_positions.proofs.steps.BranchLemmas.{some_between, ends_before, begins_after, back_some, exits_first, exits_second}
use Rattle.logos_positions.proofs.steps.StepLemmas.{iff_trans, exits_cat, exits_alt}
use Rattle.logos_positions.proofs.steps.AlikeLemmas.{stays_any}
use Rattle.logos_positions.proofs.steps.SteppedLemmas.{at_least-some}
use Rattle.logos_positions.proofs.steps.JumpLemmas.{exits_nothing, alike_here, front_step, front_skip, front_more, up_to_step, up_to_skip, up_to_more}
use Rattle.logos_positions.proofs.positions.exits.+exits.Goals as goal

off : (b : Bool) → not b ≡ true → b ≡ false
off true e = absurd (true≢false (sym e))
off false e = refl

pub exits_node-exits_literal-requires-clause-fits : goal.exits_node-exits_literal-requires-clause-fits
exits_node-exits_literal-requires-clause-fits t c =
    let fits = rw c.in-Literal.is at c.requires.fits in
    rw c.deref.ensures.value (omega (arith, fits, width-Literal c.in-Literal.text))

pub exits_node-exits-requires : goal.exits_node-exits-requires
exits_node-exits-requires t c =
    let h = rw c.in-Cat.is at c.requires.measured in
    let p = pair-Cat _ c.in-Cat.first c.in-Cat.second h in
    let fits = rw c.in-Cat.is at c.requires.fits in
    let w = width-Cat _ _ _ h in
    let v = rw c.deref-in-Cat-3.ensures at c.width.ensures in (
      search (rules, the_lemmas),
      (rw c.deref-in-Cat-2.ensures (omega (arith, fits, w, p.whole_is, v, c.after.ensures.base)), (rw c.deref-in-Cat-2.ensures p.second, c.requires.rising)),
    )

pub exits_node-exits-other-requires : goal.exits_node-exits-other-requires
exits_node-exits-other-requires t c =
    let h = rw c.in-Alt.is at c.requires.measured in
    let p = pair-Alt _ c.in-Alt.first c.in-Alt.second h in
    let fits = rw c.in-Alt.is at c.requires.fits in
    let w = width-Alt _ _ _ h in
    let v = rw c.deref-in-Alt-2.ensures at c.width-in-Alt.ensures in (
      search (rules, the_lemmas),
      (rw c.deref-in-Alt-3.ensures (omega (arith, fits, w, p.whole_is, v, c.after-beside.ensures.base)), (rw c.deref-in-Alt-3.ensures p.second, c.requires.rising)),
    )

pub exits_node-exits_repeat-requires : goal.exits_node-exits_repeat-requires
exits_node-exits_repeat-requires t c =
    let h = rw c.in-Repeat.is at c.requires.measured in
    let p = repeat-Repeat _ _ _ c.in-Repeat.body h in
    let fits = rw c.in-Repeat.is at c.requires.fits in
    let w = width-Repeat _ _ _ _ h in
    let n = c.new-copies.ensures in
    let room : c.args.spot.base + c.in-Repeat.each * count_of c.in-Repeat.least c.in-Repeat.most < 2 ^ 64 = omega (arith, fits, w) in (
      search (rules, the_lemmas),
      (rw (← n.base, ← n.each, ← n.count) at room, (rw (← n.count) at p.ordered, (rw c.deref-in-Repeat.ensures (rw (← n.each) at p.each_is), (rw c.deref-in-Repeat.ensures p.body_is, c.requires.rising)))),
    )

pub exits_node-returns-in-Literal : goal.exits_node-returns-in-Literal
exits_node-returns-in-Literal t c =
    rw (c.in-Literal.is, core-Literal c.in-Literal.text) (rw c.deref.ensures.value at c.exits_literal.ensures (test_at c.args.at))

pub exits_node-returns-in-Cat : goal.exits_node-returns-in-Cat
exits_node-returns-in-Cat t c =
    rw (ap core_of c.in-Cat.is ∙ core-Cat _ _ _)
    (exits_cat (test_at c.args.at) c.args.marks.now (core_of c.in-Cat.first.value) (core_of c.in-Cat.second.value)
    c.args.spot.base c.width.result (IsTrue c.args.spot.entered) c.exits-left.result c.exits.result (rw c.deref-in-Cat-3.ensures at c.width.ensures)
    (rw c.deref-in-Cat.ensures at c.exits-left.ensures)
    (rw (c.deref-in-Cat-2.ensures, c.after.ensures.base, c.after.ensures.entered) at c.exits.ensures))

pub exits_node-returns-in-Alt : goal.exits_node-returns-in-Alt
exits_node-returns-in-Alt t c =
    rw (ap core_of c.in-Alt.is ∙ core-Alt _ _ _)
    (exits_alt (test_at c.args.at) c.args.marks.now (core_of c.in-Alt.first.value) (core_of c.in-Alt.second.value)
    c.args.spot.base c.width-in-Alt.result (IsTrue c.args.spot.entered) c.exits-one.result c.exits-other.result (rw c.deref-in-Alt-2.ensures at c.width-in-Alt.ensures)
    (rw c.deref-in-Alt.ensures at c.exits-one.ensures)
    (rw (c.deref-in-Alt-3.ensures, c.after-beside.ensures.base, c.after-beside.ensures.entered) at c.exits-other.ensures))

pub exits_node-returns-in-Repeat : goal.exits_node-returns-in-Repeat
exits_node-returns-in-Repeat t c =
    rw (ap core_of c.in-Repeat.is ∙ core-Repeat _ _ _ _) (rw (c.new-copies.ensures.base, c.new-copies.ensures.count, c.new-copies.ensures.entered) at (rw c.deref-in-Repeat.ensures at c.exits_repeat.ensures))

pub exits_copies-loop-done-init : goal.exits_copies-loop-done-init
exits_copies-loop-done-init t c =
    let a = core_of c.args.body.now in
    let n = c.next_copy-done.ensures in
    let all : c.args.copies.count - 0 ≡ c.args.copies.count = omega arith in
    let start : c.args.copies.base + c.args.copies.each * 0 ≡ c.args.copies.base = omega arith in
    record {
      within = n.bound;
      same = λ b. rw (all, start) at
          (front_skip (test_at c.args.at) c.args.marks.now a c.args.copies.each c.args.copies.base c.requires.each b 0 c.next_copy-done.result c.args.copies.count c.args.copies.entered
          n.after n.bound n.stays n.unmarked);
    }

pub exits_copies-loop-done-preserved : goal.exits_copies-loop-done-preserved
exits_copies-loop-done-preserved t c =
    let a = core_of c.args.body.now in
    let n = c.next_copy-done-in-loop-done.ensures in
    let test = test_at c.args.at in
    let done = c.loop-done.done in
    let more = c.alike_exits-more.result in
    let alike = c.alike_exits-more.ensures in
    let rest = c.from-rest.ensures in
    let first = rw (c.at.ensures.base, c.at.ensures.entered) at c.exits-left.ensures in
    let fits : done + 1 + more ≤ c.args.copies.count = omega (arith, alike.few, rest.count) in
    record {
      within = n.bound;
      same = λ b. iff_trans
          (front_skip test c.args.marks.now a c.args.copies.each c.args.copies.base c.requires.each b (done + 1 + more) c.next_copy-done-in-loop-done.result c.args.copies.count
          c.exits-left.result n.after n.bound n.stays n.unmarked)
          (iff_trans
          (front_more test c.args.marks.now a c.args.copies.each c.args.copies.base c.requires.each b more (done + 1) c.args.copies.count c.exits-left.result fits
          (alike_here test c.args.marks.now a c.args.copies.each c.args.copies.base c.requires.each done c.from-rest.result.base c.from-rest.result.each
          c.loop-done.left c.from-rest.result.entered c.exits-left.result more rest.base rest.each rest.entered alike.same first alike.alike))
          (iff_trans
          (front_step test c.args.marks.now a c.args.copies.each c.args.copies.base c.requires.each b done c.args.copies.count c.loop-done.left c.exits-left.result
          c.loop-done-test.true first)
          (c.loop-done.invariant.same b)));
    }

pub exits_copies-returns : goal.exits_copies-returns
exits_copies-returns t c =
    let none : c.args.copies.count - c.loop-done.done ≡ 0 = omega arith in
    let all : c.loop-done.done ≡ c.args.copies.count = omega arith in
    λ b. rw all at (rw none at c.loop-done.invariant.same b)

pub exits_up_to-loop-done-init : goal.exits_up_to-loop-done-init
exits_up_to-loop-done-init t c =
    let a = core_of c.args.body.now in
    let n = c.next_copy-done.ensures in
    let all : c.args.copies.count - 0 ≡ c.args.copies.count = omega arith in
    let start : c.args.copies.base + c.args.copies.each * 0 ≡ c.args.copies.base = omega arith in
    record {
      within = n.bound;
      same = iff_trans (rw (all, start) at
          (up_to_skip (test_at c.args.at) c.args.marks.now a c.args.copies.each c.args.copies.base c.requires.each 0 c.next_copy-done.result c.args.copies.count false c.args.copies.entered
          n.after n.bound n.stays n.unmarked))
          (λ h. ⊎_elim (λ e. absurd (true≢false (sym e))) (λ u. u) h, inr);
    }

pub exits_up_to-loop-done-preserved : goal.exits_up_to-loop-done-preserved
exits_up_to-loop-done-preserved t c =
    let a = core_of c.args.body.now in
    let n = c.next_copy-done-in-loop-done.ensures in
    let test = test_at c.args.at in
    let done = c.loop-done.done in
    let more = c.alike_exits-more.result in
    let alike = c.alike_exits-more.ensures in
    let rest = c.from-rest.ensures in
    let any = c.loop-done.any || c.loop-done.left in
    let first = rw (c.at.ensures.base, c.at.ensures.entered) at c.exits-left.ensures in
    let fits : done + 1 + more ≤ c.args.copies.count = omega (arith, alike.few, rest.count) in
    record {
      within = n.bound;
      same = iff_trans
          (up_to_skip test c.args.marks.now a c.args.copies.each c.args.copies.base c.requires.each (done + 1 + more) c.next_copy-done-in-loop-done.result c.args.copies.count
          any c.exits-left.result n.after n.bound n.stays n.unmarked)
          (iff_trans
          (up_to_more test c.args.marks.now a c.args.copies.each c.args.copies.base c.requires.each more (done + 1) c.args.copies.count any c.exits-left.result fits
          (λ some. stays_any c.loop-done.any c.loop-done.left c.exits-left.result (alike.same some ∙ rest.entered))
          (alike_here test c.args.marks.now a c.args.copies.each c.args.copies.base c.requires.each done c.from-rest.result.base c.from-rest.result.each
          c.loop-done.left c.from-rest.result.entered c.exits-left.result more rest.base rest.each rest.entered alike.same first alike.alike))
          (iff_trans
          (up_to_step test c.args.marks.now a c.args.copies.each c.args.copies.base c.requires.each done c.args.copies.count c.loop-done.any c.loop-done.left c.exits-left.result
          c.loop-done-test.true first)
          c.loop-done.invariant.same));
    }

pub exits_node-exits-left-requires : goal.exits_node-exits-left-requires
exits_node-exits-left-requires t c =
    let h = rw c.in-Cat.is at c.requires.measured in
    let p = pair-Cat _ c.in-Cat.first c.in-Cat.second h in
    let fits = rw c.in-Cat.is at c.requires.fits in
    let w = width-Cat _ _ _ h in (
      search (rules, the_lemmas),
      (rw c.deref-in-Cat.ensures (omega (arith, fits, w, p.whole_is)), (rw c.deref-in-Cat.ensures p.first, c.requires.rising)),
    )

pub exits_node-exits-one-requires : goal.exits_node-exits-one-requires
exits_node-exits-one-requires t c =
    let h = rw c.in-Alt.is at c.requires.measured in
    let p = pair-Alt _ c.in-Alt.first c.in-Alt.second h in
    let fits = rw c.in-Alt.is at c.requires.fits in
    let w = width-Alt _ _ _ h in (
      search (rules, the_lemmas),
      (rw c.deref-in-Alt.ensures (omega (arith, fits, w, p.whole_is)), (rw c.deref-in-Alt.ensures p.first, c.requires.rising)),
    )

pub exits_node-returns-in-Void : goal.exits_node-returns-in-Void
exits_node-returns-in-Void t c = rw (ap core_of c.in-Void.is ∙ core-Void) (search rules)

pub exits_node-returns-in-Empty : goal.exits_node-returns-in-Empty
exits_node-returns-in-Empty t c = rw (ap core_of c.in-Empty.is ∙ core-Empty) (search rules)

pub exits_node-returns-in-Bytes : goal.exits_node-returns-in-Bytes
exits_node-returns-in-Bytes t c = rw (ap core_of c.in-Bytes.is ∙ core-Bytes _) (search rules)

pub exits_node-returns-in-Characters : goal.exits_node-returns-in-Characters
exits_node-returns-in-Characters t c = rw (ap core_of c.in-Characters.is ∙ core-Characters _) (search rules)

pub exits_node-returns-then-spot : goal.exits_node-returns-then-spot
exits_node-returns-then-spot t c = rw (ap core_of c.in-Look.is ∙ core-Look _) (search rules)

pub exits_node-returns-else-spot : goal.exits_node-returns-else-spot
exits_node-returns-else-spot t c = rw (ap core_of c.in-Look.is ∙ core-Look _) (search rules)

pub exits_node-width-requires-clause-measured : goal.exits_node-width-requires-clause-measured
exits_node-width-requires-clause-measured t c =
    rw c.deref-in-Cat-3.ensures (pair-Cat _ c.in-Cat.first c.in-Cat.second (rw c.in-Cat.is at c.requires.measured)).first

pub exits_node-width-requires-in-Alt-clause-measured : goal.exits_node-width-requires-in-Alt-clause-measured
exits_node-width-requires-in-Alt-clause-measured t c =
    rw c.deref-in-Alt-2.ensures (pair-Alt _ c.in-Alt.first c.in-Alt.second (rw c.in-Alt.is at c.requires.measured)).first

pub exits_at_least-returns : goal.exits_at_least-returns
exits_at_least-returns t c =
    let a = core_of c.args.body.now in
    rw (at_least-some c.args.copies.count a c.if-copies-eq0.false)
    (iff_trans (rw (c.at.ensures.base, c.at.ensures.entered) at c.exits.ensures) (c.exits_copies-front.ensures (core.plus a)))

pub exits_repeat-returns-in_default : goal.exits_repeat-returns-in_default
exits_repeat-returns-in_default t c = rw c.in_default.is c.exits_at_least.ensures

pub exits_repeat-returns : goal.exits_repeat-returns
exits_repeat-returns t c =
    rw c.in-Some.is (iff_trans c.exits_up_to.ensures (c.exits_copies-front.ensures (up_to (c.in-Some.most - c.args.copies.count) (core_of c.args.body.now))))

pub exits-returns-then-not-any_mark : goal.exits-returns-then-not-any_mark
exits-returns-then-not-any_mark t c =
    rw (off c.args.spot.entered c.if-not-spot.true)
    (exits_nothing (core_of c.args.node.now) (test_at c.args.at) _
    (λ q lt has. true≢false (sym (c.any_mark.ensures.1 (q, omega (arith, lt, c.width.ensures), has)) ∙ c.if-not-any_mark.true)))

pub exits-exits_marked-requires : goal.exits-exits_marked-requires
exits-exits_marked-requires t c =
    let own = c.own_positions-own.ensures in
    let some = c.any_mark.ensures.0 c.if-not-any_mark.false in
    let w = width (core_of c.args.node.now) in
    let to = rw c.width-in-Alt.ensures at own.to in
    let lt = some_between c.args.marks.now c.args.spot.base w c.own_positions-own.result.from c.own_positions-own.result.to own.from to some.0 (omega (arith, some.1, c.width.ensures)) some.2 in (
      search (rules, the_lemmas),
      (rw own.base c.requires.fits, (c.requires.measured, (c.requires.rising, (lt, (rw own.base own.from, rw own.base to))))),
    )

pub exits-returns-in-Alt : goal.exits-returns-in-Alt
exits-returns-in-Alt t c =
    rw (off c.args.spot.entered c.if-not-spot.true) (rw c.own_positions-own.ensures.base at c.exits_marked.ensures)

pub exits_marked-exits_marked-requires : goal.exits_marked-exits_marked-requires
exits_marked-exits_marked-requires t c =
    let a = core_of c.in-Alt.first.value in
    let b = core_of c.in-Alt.second.value in
    let marks = c.args.marks.now in
    let is = ap core_of c.in-Alt.is ∙ core-Alt _ c.in-Alt.first c.in-Alt.second in
    let v : c.width.result ≡ width a = rw c.deref.ensures at c.width.ensures in
    let to : IsFirstFrom marks (c.args.own.base + (width a + width b)) c.args.own.to = rw is at c.requires.to in
    let p = pair-Alt _ c.in-Alt.first c.in-Alt.second (rw c.in-Alt.is at c.requires.measured) in
    let fits : c.args.own.base + (width a + width b) < 2 ^ 64 = rw is at c.requires.fits in
    let d = c.deref-then-marks-own.ensures in
    let under : slice_index marks (c.args.own.to - 1) < c.args.own.base + width a = rw v at c.if-marks-own.true in
    let end = ends_before marks (c.args.own.base + (width a + width b)) (c.args.own.base + width a) c.args.own.from c.args.own.to c.requires.rising to c.requires.some (omega arith) under in (
      search (rules, the_lemmas),
      (rw d (omega (arith, fits)), (rw d p.first, (c.requires.rising, (c.requires.some, (c.requires.from, rw d end))))),
    )

pub exits_marked-returns-then-marks-own : goal.exits_marked-returns-then-marks-own
exits_marked-returns-then-marks-own t c =
    let a = core_of c.in-Alt.first.value in
    let b = core_of c.in-Alt.second.value in
    let marks = c.args.marks.now in
    let is = ap core_of c.in-Alt.is ∙ core-Alt _ c.in-Alt.first c.in-Alt.second in
    let v : c.width.result ≡ width a = rw c.deref.ensures at c.width.ensures in
    let to : IsFirstFrom marks (c.args.own.base + (width a + width b)) c.args.own.to = rw is at c.requires.to in
    let end = ends_before marks (c.args.own.base + (width a + width b)) (c.args.own.base + c.width.result) c.args.own.from c.args.own.to c.requires.rising to c.requires.some (omega (arith, v)) c.if-marks-own.true in
    rw is
    (exits_first (test_at c.args.at) marks a b c.args.own.base c.width.result v c.args.own.to _ end to
    (rw c.deref-then-marks-own.ensures at c.exits_marked.ensures))

pub exits_marked-exits_marked-requires-then-middle-marks :
    goal.exits_marked-exits_marked-requires-then-middle-marks
exits_marked-exits_marked-requires-then-middle-marks t c =
    let a = core_of c.in-Alt.first.value in
    let b = core_of c.in-Alt.second.value in
    let marks = c.args.marks.now in
    let is = ap core_of c.in-Alt.is ∙ core-Alt _ c.in-Alt.first c.in-Alt.second in
    let v : c.width.result ≡ width a = rw c.deref.ensures at c.width.ensures in
    let to : IsFirstFrom marks (c.args.own.base + (width a + width b)) c.args.own.to = rw is at c.requires.to in
    let p = pair-Alt _ c.in-Alt.first c.in-Alt.second (rw c.in-Alt.is at c.requires.measured) in
    let fits : c.args.own.base + (width a + width b) < 2 ^ 64 = rw is at c.requires.fits in
    let d = c.deref-then-middle-marks.ensures in
    let sum : c.args.own.base + (width a + width b) ≡ c.args.own.base + c.width.result + width b = omega (arith, v) in
    let begin = begins_after marks c.args.own.base (c.args.own.base + c.width.result) c.args.own.from c.requires.rising c.requires.from (omega arith) c.if-middle-marks.true in (
      search (rules, the_lemmas),
      (rw d (omega (arith, fits, v)), (rw d p.second, (c.requires.rising, (c.requires.some, (begin, rw d (rw sum at to)))))),
    )

pub exits_marked-returns-then-middle-marks : goal.exits_marked-returns-then-middle-marks
exits_marked-returns-then-middle-marks t c =
    let a = core_of c.in-Alt.first.value in
    let b = core_of c.in-Alt.second.value in
    let marks = c.args.marks.now in
    let is = ap core_of c.in-Alt.is ∙ core-Alt _ c.in-Alt.first c.in-Alt.second in
    let v : c.width.result ≡ width a = rw c.deref.ensures at c.width.ensures in
    let begin = begins_after marks c.args.own.base (c.args.own.base + c.width.result) c.args.own.from c.requires.rising c.requires.from (omega arith) c.if-middle-marks.true in
    rw is
    (exits_second (test_at c.args.at) marks a b c.args.own.base c.width.result v c.args.own.from _ c.requires.from begin
    (rw c.deref-then-middle-marks.ensures at c.exits_marked-then-middle-marks.ensures))

pub exits_marked-returns : goal.exits_marked-returns
exits_marked-returns t c =
    let a = core_of c.in-Alt.first.value in
    let b = core_of c.in-Alt.second.value in
    let marks = c.args.marks.now in
    let is = ap core_of c.in-Alt.is ∙ core-Alt _ c.in-Alt.first c.in-Alt.second in
    let v : c.width.result ≡ width a = rw c.deref.ensures at c.width.ensures in
    rw is
    (exits_alt (test_at c.args.at) marks a b c.args.own.base c.width.result (IsTrue false) c.exits_marked-one.result c.exits_marked-other.result v
    (rw (c.parted.ensures.base, c.deref-2.ensures) at c.exits_marked-one.ensures)
    (rw (c.parted.ensures.after, c.deref-3.ensures) at c.exits_marked-other.ensures))

pub exits_marked-returns-in_default : goal.exits_marked-returns-in_default
exits_marked-returns-in_default t c = rw (c.unentered.ensures.base, c.unentered.ensures.entered) at c.exits_node.ensures

pub exits_marked-width-requires-clause-measured : goal.exits_marked-width-requires-clause-measured
exits_marked-width-requires-clause-measured t c =
    rw c.deref.ensures (pair-Alt _ c.in-Alt.first c.in-Alt.second (rw c.in-Alt.is at c.requires.measured)).first

pub exits_marked-exits_marked-other-requires : goal.exits_marked-exits_marked-other-requires
exits_marked-exits_marked-other-requires t c =
    let a = core_of c.in-Alt.first.value in
    let b = core_of c.in-Alt.second.value in
    let marks = c.args.marks.now in
    let is = ap core_of c.in-Alt.is ∙ core-Alt _ c.in-Alt.first c.in-Alt.second in
    let v : c.width.result ≡ width a = rw c.deref.ensures at c.width.ensures in
    let to : IsFirstFrom marks (c.args.own.base + (width a + width b)) c.args.own.to = rw is at c.requires.to in
    let p = pair-Alt _ c.in-Alt.first c.in-Alt.second (rw c.in-Alt.is at c.requires.measured) in
    let fits : c.args.own.base + (width a + width b) < 2 ^ 64 = rw is at c.requires.fits in
    let d = c.deref-3.ensures in
    let parts = c.parted.ensures in
    let sum : c.args.own.base + (width a + width b) ≡ c.args.own.base + c.width.result + width b = omega (arith, v) in
    let over : c.args.own.base + c.width.result ≤ slice_index marks (c.args.own.to - 1) = omega (arith, c.if-marks-own.false) in
    let some = back_some marks (c.args.own.base + c.width.result) c.args.own.from c.args.own.to _ parts.middle c.requires.some over in (
      search (rules, the_lemmas),
      (rw (parts.after, d) (omega (arith, fits, v)), (rw d p.second, (c.requires.rising, (rw (parts.meet, parts.to) some, (rw (parts.after, parts.meet) parts.middle, rw (parts.after, parts.to, d) (rw sum at to)))))),
    )
