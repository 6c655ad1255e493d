use Rattle.std.proofs.Common.{Bool, ◌||◌, slice_index, ◌≡◌, ◌+◌, ◌-◌, ◌*◌, ◌≤◌, ◌<◌, ◌^◌, true, false, not, refl, true≢false, sym, ap, ◌∙◌, arith, rules, max}
use Rattle.std.proofs.Math.Nat.{mul-le-mul_left}
use Rattle.std.proofs.lemmas.Result.{IfOk-weaker}
use Rattle.logos_hir.specs.Hir.{pairs}
use Rattle.logos_hir.specs.declared.hir.Look.{Look}
use Rattle.logos_hir.specs.ByteRanges.{is_in}
use Rattle.logos_positions.specs.Core as core
use Rattle.logos_positions.specs.Core.{Core, width}
use Rattle.logos_positions.specs.Kinds.{test_at}
use Rattle.logos_positions.specs.Node.{core_of}
use Rattle.logos_positions.specs.Repeat.{in_front, up_to, spelled, count_of}
use Rattle.logos_positions.specs.Marks.{IsFirstFrom}
use Rattle.logos_positions.specs.inside.Stepped.{Stepped}
use Rattle.logos_positions.specs.Table.{reader_of}
use Rattle.logos_positions.specs.declared.node.Node.{the_lemmas}
use Rattle.logos_positions.proofs.trees.NodeLemmas.{core-Void, core-Empty, core-Literal, core-Bytes, core-Characters, core-Look, core-Cat, core-Alt, core-Repeat, width-Literal, width-Characters, width-Cat, width-Alt, pair-Cat, pair-Alt, repeat-Repeat, width-Repeat}
use Rattle.logos_positions.proofs.steps.BranchLemmas.{some_between, ends_before, begins_after, back_some, stepped_first, stepped_second}
use Rattle.logos_positions.proofs.steps.MarkLemmas.{IsSet-more}
use Rattle.logos_positions.proofs.steps.StepLemmas.{again_iff}
use Rattle.logos_positions.proofs.steps.SteppedLemmas.{stepped_nothing, stepped_cat, stepped_alt, stepped_plus, owes_all, owes_done, at_least-some}
use Rattle.logos_positions.proofs.steps.AlikeLemmas.{owes_front_more, owes_up_to_more, repeated_here, stays_any}
use Rattle.logos_positions.proofs.steps.OweLemmas.{owes_front_step, owes_front_skip, owes_up_to_step, owes_up_to_skip}
use Rattle.logos_positions.proofs.positions.step.+step.Goals as goal

off : (b : Bool) → not b ≡ true → b ≡ false
off true e = absurd (true≢false (sym e))
off false e = refl

pub step_node-step_literal-requires-clause-fits : goal.step_node-step_literal-requires-clause-fits
step_node-step_literal-requires-clause-fits t c =
    let fits = rw c.in-Literal.is at c.requires.fits in
    rw c.deref.ensures.value (omega (arith, fits, width-Literal c.in-Literal.text))

pub step_node-step_repeat-requires : goal.step_node-step_repeat-requires
step_node-step_repeat-requires t c =
    let h = rw c.in-Repeat.is at c.requires.measured in
    let p = repeat-Repeat _ _ _ c.in-Repeat.body h in
    let fits = rw c.in-Repeat.is at c.requires.fits in
    let w = width-Repeat _ _ _ _ h in
    let n = c.new-copies.ensures in
    let room : c.args.spot.base + c.in-Repeat.each * count_of c.in-Repeat.least c.in-Repeat.most < 2 ^ 64 = omega (arith, fits, w) in (
      search (rules, the_lemmas),
      (rw (← n.base, ← n.each, ← n.count) at room, (rw (← n.count) at p.ordered, (rw c.deref-in-Repeat.ensures (rw (← n.each) at p.each_is), (rw c.deref-in-Repeat.ensures p.body_is, (c.requires.rising, rw (← n.base) at c.requires.set))))),
    )

pub step_node-returns-in-Bytes : goal.step_node-returns-in-Bytes
step_node-returns-in-Bytes t c =
    rw (ap core_of c.in-Bytes.is ∙ core-Bytes _)
    (IfOk-weaker _ _ _
    (λ left (s : (test : Look → Bool) → Stepped (core.byte_in (is_in (pairs c.in-Bytes.ranges.items))) test c.args.by.byte c.args.by.marks.now
    c.args.next.now.items c.step_bytes.new.next.items c.args.spot.base c.args.spot.entered left). s (test_at c.args.by.at))
    (rw c.deref-in-Bytes.ensures.value at c.step_bytes.ensures))

pub step_node-returns-in-Characters : goal.step_node-returns-in-Characters
step_node-returns-in-Characters t c =
    rw (ap core_of c.in-Characters.is ∙ core-Characters _)
    (IfOk-weaker _ _ _
    (λ left (s : (test : Look → Bool) → Stepped (core.character (reader_of c.in-Characters.table)) test c.args.by.byte c.args.by.marks.now
    c.args.next.now.items c.step_characters.new.next.items c.args.spot.base c.args.spot.entered left). s (test_at c.args.by.at))
    c.step_characters.ensures)

pub step_copies-step-requires : goal.step_copies-step-requires
step_copies-step-requires t c =
    let more : c.loop-done.done + 1 ≤ c.args.copies.count = omega arith in
    let few = mul-le-mul_left c.args.copies.each more in
    let a = c.at.ensures.base in (
      search (rules, the_lemmas),
      (omega (arith, a, c.requires.fits, c.requires.each, few), (c.requires.measured, (c.requires.rising, rw a (c.loop-done.invariant.owes core.empty).set))),
    )

pub step_copies-loop-done-init : goal.step_copies-loop-done-init
step_copies-loop-done-init t c =
    let a = core_of c.args.body.now in
    let n = c.next_copy-done.ensures in
    let start : c.args.copies.base + c.args.copies.each * 0 ≡ c.args.copies.base = omega arith in
    let all : c.args.copies.count - 0 ≡ c.args.copies.count = omega arith in
    record {
      within = n.bound;
      owes = λ b. owes_front_skip (test_at c.args.by.at) c.args.by.byte c.args.by.marks.now (in_front c.args.copies.count a b) c.args.next.now.items c.args.copies.base c.args.copies.entered
          a c.args.copies.each c.requires.each b 0 c.next_copy-done.result c.args.copies.count c.args.next.now.items c.args.copies.entered false n.after n.bound n.stays n.unmarked
          (rw (start, all) (owes_all (test_at c.args.by.at) c.args.by.byte c.args.by.marks.now (in_front c.args.copies.count a b) c.args.next.now.items c.args.copies.base c.args.copies.entered c.requires.set));
    }

pub step_copies-loop-done-preserved : goal.step_copies-loop-done-preserved
step_copies-loop-done-preserved t c =
    let a = core_of c.args.body.now in
    let n = c.next_copy-done-in-loop-done.ensures in
    let test = test_at c.args.by.at in
    let whole = λ (b : Core). in_front c.args.copies.count a b in
    let done = c.loop-done.done in
    let more = c.in_ok-more.more in
    let first = rw (c.at.ensures.base, c.at.ensures.entered) at c.in_ok-left.ensures in
    let fits : done + 1 + more ≤ c.args.copies.count = omega (arith, c.in_ok-more.ensures.few, c.from-rest.ensures.count) in
    record {
      within = n.bound;
      owes = λ b. owes_front_skip test c.args.by.byte c.args.by.marks.now (whole b) c.args.next.now.items c.args.copies.base c.args.copies.entered
          a c.args.copies.each c.requires.each b (done + 1 + more) c.next_copy-done-in-loop-done.result c.args.copies.count _ c.in_ok-left.left false n.after n.bound n.stays n.unmarked
          (owes_front_more test c.args.by.byte c.args.by.marks.now (whole b) c.args.next.now.items c.args.copies.base c.args.copies.entered
          a c.args.copies.each c.requires.each b more (done + 1) c.args.copies.count _ _ c.in_ok-left.left false fits
          (owes_front_step test c.args.by.byte c.args.by.marks.now (whole b) c.args.next.now.items c.args.copies.base c.args.copies.entered
          a c.args.copies.each c.requires.each b done c.args.copies.count c.loop-done.next.items _ c.loop-done.left c.in_ok-left.left false c.loop-done-test.true
          (c.loop-done.invariant.owes b) first)
          (repeated_here test c.args.by.byte c.args.by.marks.now a c.args.copies.base c.args.copies.each done _ _ _ c.from-rest.result.base c.from-rest.result.each c.loop-done.left c.from-rest.result.entered c.in_ok-left.left more
          c.from-rest.ensures.base c.from-rest.ensures.each c.from-rest.ensures.entered c.requires.each (c.loop-done.invariant.owes core.empty).set first c.in_ok-more.ensures.repeated));
    }

pub step_copies-returns : goal.step_copies-returns
step_copies-returns t c =
    let none : c.args.copies.count - c.loop-done.done ≡ 0 = omega arith in
    let all : c.loop-done.done ≡ c.args.copies.count = omega arith in
    λ b. rw all at (rw none at c.loop-done.invariant.owes b)

pub step_plus-returns : goal.step_plus-returns
step_plus-returns t c =
    let a = core_of c.args.body.now in
    stepped_plus (test_at c.args.by.at) c.args.by.byte c.args.by.marks.now a _ _ c.args.spot.base c.args.spot.entered _ c.exits-left.result _
    (again_iff (test_at c.args.by.at) c.args.by.marks.now a c.args.spot.base c.args.spot.entered c.exits-left.result c.exits-left.ensures)
    c.in_ok-step.ensures c.exits-left.ensures

pub step_up_to-loop-done-init : goal.step_up_to-loop-done-init
step_up_to-loop-done-init t c =
    let a = core_of c.args.body.now in
    let n = c.next_copy-done.ensures in
    let start : c.args.copies.base + c.args.copies.each * 0 ≡ c.args.copies.base = omega arith in
    let all : c.args.copies.count - 0 ≡ c.args.copies.count = omega arith in
    record {
      within = n.bound;
      owes = owes_up_to_skip (test_at c.args.by.at) c.args.by.byte c.args.by.marks.now (up_to c.args.copies.count a) c.args.next.now.items c.args.copies.base c.args.copies.entered
          a c.args.copies.each c.requires.each 0 c.next_copy-done.result c.args.copies.count c.args.next.now.items c.args.copies.entered false n.after n.bound n.stays n.unmarked
          (rw (start, all) (owes_all (test_at c.args.by.at) c.args.by.byte c.args.by.marks.now (up_to c.args.copies.count a) c.args.next.now.items c.args.copies.base c.args.copies.entered c.requires.set));
    }

pub step_up_to-loop-done-preserved : goal.step_up_to-loop-done-preserved
step_up_to-loop-done-preserved t c =
    let a = core_of c.args.body.now in
    let n = c.next_copy-done-in-loop-done.ensures in
    let test = test_at c.args.by.at in
    let whole = up_to c.args.copies.count a in
    let done = c.loop-done.done in
    let more = c.in_ok-more.more in
    let any = c.loop-done.any || c.loop-done.left in
    let first = rw (c.at.ensures.base, c.at.ensures.entered) at c.in_ok-left.ensures in
    let fits : done + 1 + more ≤ c.args.copies.count = omega (arith, c.in_ok-more.ensures.few, c.from-rest.ensures.count) in
    record {
      within = n.bound;
      owes = owes_up_to_skip test c.args.by.byte c.args.by.marks.now whole c.args.next.now.items c.args.copies.base c.args.copies.entered
          a c.args.copies.each c.requires.each (done + 1 + more) c.next_copy-done-in-loop-done.result c.args.copies.count _ c.in_ok-left.left _ n.after n.bound n.stays n.unmarked
          (owes_up_to_more test c.args.by.byte c.args.by.marks.now whole c.args.next.now.items c.args.copies.base c.args.copies.entered
          a c.args.copies.each c.requires.each more (done + 1) c.args.copies.count _ _ c.in_ok-left.left any fits
          (λ some. stays_any c.loop-done.any c.loop-done.left c.in_ok-left.left (c.in_ok-more.ensures.same some ∙ c.from-rest.ensures.entered))
          (owes_up_to_step test c.args.by.byte c.args.by.marks.now whole c.args.next.now.items c.args.copies.base c.args.copies.entered
          a c.args.copies.each c.requires.each done c.args.copies.count c.loop-done.next.items _ c.loop-done.left c.in_ok-left.left c.loop-done.any c.loop-done-test.true
          c.loop-done.invariant.owes first)
          (repeated_here test c.args.by.byte c.args.by.marks.now a c.args.copies.base c.args.copies.each done _ _ _ c.from-rest.result.base c.from-rest.result.each c.loop-done.left c.from-rest.result.entered c.in_ok-left.left more
          c.from-rest.ensures.base c.from-rest.ensures.each c.from-rest.ensures.entered c.requires.each c.loop-done.invariant.owes.set first c.in_ok-more.ensures.repeated));
    }

pub step_node-step_characters-requires-clause-fits : goal.step_node-step_characters-requires-clause-fits
step_node-step_characters-requires-clause-fits t c =
    let fits = rw c.in-Characters.is at c.requires.fits in
    omega (arith, fits, width-Characters c.in-Characters.table)

pub step_node-returns-in-Void : goal.step_node-returns-in-Void
step_node-returns-in-Void t c = rw (ap core_of c.in-Void.is ∙ core-Void) (search rules)

pub step_node-returns-in-Empty : goal.step_node-returns-in-Empty
step_node-returns-in-Empty t c = rw (ap core_of c.in-Empty.is ∙ core-Empty) (search rules)

pub step_node-returns-then-spot : goal.step_node-returns-then-spot
step_node-returns-then-spot t c = rw (ap core_of c.in-Look.is ∙ core-Look _) (search rules)

pub step_node-returns-else-spot : goal.step_node-returns-else-spot
step_node-returns-else-spot t c = rw (ap core_of c.in-Look.is ∙ core-Look _) (search rules)

pub step_node-returns-in-Literal : goal.step_node-returns-in-Literal
step_node-returns-in-Literal t c =
    rw (ap core_of c.in-Literal.is ∙ core-Literal _)
    (IfOk-weaker _ _ _
    (λ left (s : (test : Look → Bool) → Stepped (spelled c.in-Literal.text.items) test c.args.by.byte c.args.by.marks.now
    c.args.next.now.items c.step_literal.new.next.items c.args.spot.base c.args.spot.entered left). s (test_at c.args.by.at))
    (rw c.deref.ensures.value at c.step_literal.ensures))

pub step_node-returns-in-Repeat : goal.step_node-returns-in-Repeat
step_node-returns-in-Repeat t c =
    rw (ap core_of c.in-Repeat.is ∙ core-Repeat _ _ _ _) (rw (c.new-copies.ensures.base, c.new-copies.ensures.count, c.new-copies.ensures.entered) at (rw c.deref-in-Repeat.ensures at c.step_repeat.ensures))

pub step_repeat-returns : goal.step_repeat-returns
step_repeat-returns t c =
    let a = core_of c.args.body.now in
    rw c.in-Some.is
    (IfOk-weaker _ _ _
    (λ last s. owes_done (test_at c.args.by.at) c.args.by.byte c.args.by.marks.now
    (in_front c.args.copies.count a (up_to (c.in-Some.most - c.args.copies.count) a)) c.args.next.now.items c.args.copies.base c.args.copies.entered
    (up_to (c.in-Some.most - c.args.copies.count) a) c.step_copies.new.next.items _ _ c.in_ok-front.front last false
    (c.in_ok-front.ensures (up_to (c.in-Some.most - c.args.copies.count) a)) s)
    c.step_up_to.ensures)

pub step_at_least-at-requires : goal.step_at_least-at-requires
step_at_least-at-requires t c =
    let fewer : c.args.copies.count - 1 ≤ max c.args.copies.count 1 = omega arith in
    omega (arith, c.requires.fits, mul-le-mul_left c.args.copies.each fewer)

pub step_at_least-step_plus-requires-2 : goal.step_at_least-step_plus-requires-2
step_at_least-step_plus-requires-2 t c =
    let more : c.args.copies.count - 1 + 1 ≤ max c.args.copies.count 1 = omega arith in
    let few = mul-le-mul_left c.args.copies.each more in
    let a = c.at.ensures.base in (
      search (rules, the_lemmas),
      (omega (arith, a, c.requires.fits, c.requires.each, few), (c.requires.measured, (c.requires.rising, rw a (c.in_ok-front.ensures core.empty).set))),
    )

pub step_at_least-returns : goal.step_at_least-returns
step_at_least-returns t c =
    let a = core_of c.args.body.now in
    rw (at_least-some c.args.copies.count a c.if-copies-eq0.false)
    (IfOk-weaker _ _ _
    (λ last s. owes_done (test_at c.args.by.at) c.args.by.byte c.args.by.marks.now
    (in_front (c.args.copies.count - 1) a (core.plus a)) c.args.next.now.items c.args.copies.base c.args.copies.entered
    (core.plus a) c.step_copies.new.next.items _ _ c.in_ok-front.front last false
    (c.in_ok-front.ensures (core.plus a)) (rw (c.at.ensures.base, c.at.ensures.entered) at s))
    c.step_plus-2.ensures)

pub step-returns-then-not-any_mark : goal.step-returns-then-not-any_mark
step-returns-then-not-any_mark t c =
    rw (off c.args.spot.entered c.if-not-spot.true)
    (stepped_nothing (test_at c.args.by.at) c.args.by.byte c.args.by.marks.now (core_of c.args.node.now) _ c.args.spot.base c.requires.set
    (λ q lt has. true≢false (sym (c.any_mark.ensures.1 (q, omega (arith, lt, c.width.ensures), has)) ∙ c.if-not-any_mark.true)))

pub step-step_marked-requires : goal.step-step_marked-requires
step-step_marked-requires t c =
    let own = c.own_positions-own.ensures in
    let some = c.any_mark.ensures.0 c.if-not-any_mark.false in
    let w = width (core_of c.args.node.now) in
    let to = rw c.width-in-Alt.ensures at own.to in
    let lt = some_between c.args.by.marks.now c.args.spot.base w c.own_positions-own.result.from c.own_positions-own.result.to own.from to some.0 (omega (arith, some.1, c.width.ensures)) some.2 in (
      search (rules, the_lemmas),
      (rw own.base c.requires.fits, (c.requires.measured, (c.requires.rising, (rw own.base c.requires.set, (lt, (rw own.base own.from, rw own.base to)))))),
    )

pub step-returns-in-Alt : goal.step-returns-in-Alt
step-returns-in-Alt t c =
    rw (off c.args.spot.entered c.if-not-spot.true) (rw c.own_positions-own.ensures.base at c.step_marked.ensures)

pub step_marked-step_marked_literal-requires-clause-fits :
    goal.step_marked-step_marked_literal-requires-clause-fits
step_marked-step_marked_literal-requires-clause-fits t c =
    let fits = rw c.in-Literal.is at c.requires.fits in
    rw c.deref.ensures.value (omega (arith, fits, width-Literal c.in-Literal.text))

pub step_marked-step_marked_literal-requires-clause-to :
    goal.step_marked-step_marked_literal-requires-clause-to
step_marked-step_marked_literal-requires-clause-to t c =
    let to = rw c.in-Literal.is at c.requires.to in
    rw (c.deref.ensures.value, width-Literal c.in-Literal.text) to

pub step_marked-step_marked-requires : goal.step_marked-step_marked-requires
step_marked-step_marked-requires t c =
    let a = core_of c.in-Alt.first.value in
    let b = core_of c.in-Alt.second.value in
    let marks = c.args.by.marks.now in
    let is = ap core_of c.in-Alt.is ∙ core-Alt _ c.in-Alt.first c.in-Alt.second in
    let v : c.width.result ≡ width a = rw c.deref-2.ensures at c.width.ensures in
    let to : IsFirstFrom marks (c.args.own.base + (width a + width b)) c.args.own.to = rw is at c.requires.to in
    let p = pair-Alt _ c.in-Alt.first c.in-Alt.second (rw c.in-Alt.is at c.requires.measured) in
    let fits : c.args.own.base + (width a + width b) < 2 ^ 64 = rw is at c.requires.fits in
    let d = c.deref-then-by-own.ensures in
    let under : slice_index marks (c.args.own.to - 1) < c.args.own.base + width a = rw v at c.if-by-own.true in
    let end = ends_before marks (c.args.own.base + (width a + width b)) (c.args.own.base + width a) c.args.own.from c.args.own.to c.requires.rising to c.requires.some (omega arith) under in (
      search (rules, the_lemmas),
      (rw d (omega (arith, fits)), (rw d p.first, (c.requires.rising, (c.requires.set, (c.requires.some, (c.requires.from, rw d end)))))),
    )

pub step_marked-returns-then-by-own : goal.step_marked-returns-then-by-own
step_marked-returns-then-by-own t c =
    let a = core_of c.in-Alt.first.value in
    let b = core_of c.in-Alt.second.value in
    let marks = c.args.by.marks.now in
    let is = ap core_of c.in-Alt.is ∙ core-Alt _ c.in-Alt.first c.in-Alt.second in
    let v : c.width.result ≡ width a = rw c.deref-2.ensures at c.width.ensures in
    let to : IsFirstFrom marks (c.args.own.base + (width a + width b)) c.args.own.to = rw is at c.requires.to in
    let end = ends_before marks (c.args.own.base + (width a + width b)) (c.args.own.base + c.width.result) c.args.own.from c.args.own.to c.requires.rising to c.requires.some (omega (arith, v)) c.if-by-own.true in
    rw is
    (IfOk-weaker _ _ _
    (λ left s. stepped_first (test_at c.args.by.at) c.args.by.byte marks a b _ c.step_marked.new.next.items c.args.own.base c.width.result v c.args.own.to left end to
    (rw c.deref-then-by-own.ensures at s))
    c.step_marked.ensures)

pub step_marked-step_marked-requires-then-middle-by :
    goal.step_marked-step_marked-requires-then-middle-by
step_marked-step_marked-requires-then-middle-by t c =
    let a = core_of c.in-Alt.first.value in
    let b = core_of c.in-Alt.second.value in
    let marks = c.args.by.marks.now in
    let is = ap core_of c.in-Alt.is ∙ core-Alt _ c.in-Alt.first c.in-Alt.second in
    let v : c.width.result ≡ width a = rw c.deref-2.ensures at c.width.ensures in
    let to : IsFirstFrom marks (c.args.own.base + (width a + width b)) c.args.own.to = rw is at c.requires.to in
    let p = pair-Alt _ c.in-Alt.first c.in-Alt.second (rw c.in-Alt.is at c.requires.measured) in
    let fits : c.args.own.base + (width a + width b) < 2 ^ 64 = rw is at c.requires.fits in
    let d = c.deref-then-middle-by.ensures in
    let sum : c.args.own.base + (width a + width b) ≡ c.args.own.base + c.width.result + width b = omega (arith, v) in
    let begin = begins_after marks c.args.own.base (c.args.own.base + c.width.result) c.args.own.from c.requires.rising c.requires.from (omega arith) c.if-middle-by.true in (
      search (rules, the_lemmas),
      (rw d (omega (arith, fits, v)), (rw d p.second, (c.requires.rising, (IsSet-more _ c.args.own.base _ (omega arith) c.requires.set, (c.requires.some, (begin, rw d (rw sum at to))))))),
    )

pub step_marked-returns-then-middle-by : goal.step_marked-returns-then-middle-by
step_marked-returns-then-middle-by t c =
    let a = core_of c.in-Alt.first.value in
    let b = core_of c.in-Alt.second.value in
    let marks = c.args.by.marks.now in
    let is = ap core_of c.in-Alt.is ∙ core-Alt _ c.in-Alt.first c.in-Alt.second in
    let v : c.width.result ≡ width a = rw c.deref-2.ensures at c.width.ensures in
    let begin = begins_after marks c.args.own.base (c.args.own.base + c.width.result) c.args.own.from c.requires.rising c.requires.from (omega arith) c.if-middle-by.true in
    rw is
    (IfOk-weaker _ _ _
    (λ left s. stepped_second (test_at c.args.by.at) c.args.by.byte marks a b _ c.step_marked-then-middle-by.new.next.items c.args.own.base c.width.result v c.args.own.from left c.requires.set c.requires.from begin
    (rw c.deref-then-middle-by.ensures at s))
    c.step_marked-then-middle-by.ensures)

pub step_marked-step_marked-requires-3 : goal.step_marked-step_marked-requires-3
step_marked-step_marked-requires-3 t c =
    let a = core_of c.in-Alt.first.value in
    let b = core_of c.in-Alt.second.value in
    let marks = c.args.by.marks.now in
    let is = ap core_of c.in-Alt.is ∙ core-Alt _ c.in-Alt.first c.in-Alt.second in
    let v : c.width.result ≡ width a = rw c.deref-2.ensures at c.width.ensures in
    let to : IsFirstFrom marks (c.args.own.base + (width a + width b)) c.args.own.to = rw is at c.requires.to in
    let p = pair-Alt _ c.in-Alt.first c.in-Alt.second (rw c.in-Alt.is at c.requires.measured) in
    let fits : c.args.own.base + (width a + width b) < 2 ^ 64 = rw is at c.requires.fits in
    let d = c.deref-4.ensures in
    let parts = c.parted.ensures in
    let sum : c.args.own.base + (width a + width b) ≡ c.args.own.base + c.width.result + width b = omega (arith, v) in
    let over : c.args.own.base + c.width.result ≤ slice_index marks (c.args.own.to - 1) = omega (arith, c.if-by-own.false) in
    let some = back_some marks (c.args.own.base + c.width.result) c.args.own.from c.args.own.to _ parts.middle c.requires.some over in (
      search (rules, the_lemmas),
      (
        rw (parts.after, d) (omega (arith, fits, v)),
        (rw d p.second, (c.requires.rising, (rw (parts.after, v) (rw (parts.base, c.deref-3.ensures) at c.in_ok-one.ensures.set), (rw (parts.meet, parts.to) some, (rw (parts.after, parts.meet) parts.middle, rw (parts.after, parts.to, d) (rw sum at to)))))),
      ),
    )

pub step_marked-returns : goal.step_marked-returns
step_marked-returns t c =
    let a = core_of c.in-Alt.first.value in
    let b = core_of c.in-Alt.second.value in
    let marks = c.args.by.marks.now in
    let is = ap core_of c.in-Alt.is ∙ core-Alt _ c.in-Alt.first c.in-Alt.second in
    let v : c.width.result ≡ width a = rw c.deref-2.ensures at c.width.ensures in
    rw is
    (stepped_alt (test_at c.args.by.at) c.args.by.byte marks a b
    _ c.step_marked-2.new.next.items _ c.args.own.base c.width.result false c.in_ok-one.one c.in_ok-other.other v
    (rw (c.parted.ensures.base, c.deref-3.ensures) at c.in_ok-one.ensures)
    (rw (c.parted.ensures.after, c.deref-4.ensures) at c.in_ok-other.ensures))

pub step_node-returns-in_ok-left-in-Cat : goal.step_node-returns-in_ok-left-in-Cat
step_node-returns-in_ok-left-in-Cat t c =
    rw (ap core_of c.in-Cat.is ∙ core-Cat _ _ _)
    (IfOk-weaker _ _ _
    (λ last s. stepped_cat (test_at c.args.by.at) c.args.by.byte c.args.by.marks.now (core_of c.in-Cat.first.value) (core_of c.in-Cat.second.value)
    _ c.step.new.next.items _ c.args.spot.base c.width.result c.args.spot.entered c.in_ok-left-in-Cat.left last (rw c.deref-in-Cat-3.ensures at c.width.ensures) c.requires.set
    (rw c.deref-in-Cat.ensures at c.in_ok-left-in-Cat.ensures)
    (rw (c.deref-in-Cat-2.ensures, c.after.ensures.base, c.after.ensures.entered) at s))
    c.step-in-Cat.ensures)

pub step_node-returns-in_ok-other-in-Alt : goal.step_node-returns-in_ok-other-in-Alt
step_node-returns-in_ok-other-in-Alt t c =
    rw (ap core_of c.in-Alt.is ∙ core-Alt _ _ _)
    (stepped_alt (test_at c.args.by.at) c.args.by.byte c.args.by.marks.now (core_of c.in-Alt.first.value) (core_of c.in-Alt.second.value)
    _ c.step-in-Alt.new.next.items _ c.args.spot.base c.width-in-Alt.result c.args.spot.entered c.in_ok-one-in-Alt.one c.in_ok-other-in-Alt.other (rw c.deref-in-Alt-2.ensures at c.width-in-Alt.ensures)
    (rw c.deref-in-Alt.ensures at c.in_ok-one-in-Alt.ensures)
    (rw (c.deref-in-Alt-3.ensures, c.after-beside.ensures.base, c.after-beside.ensures.entered) at c.in_ok-other-in-Alt.ensures))

pub step_node-step-requires : goal.step_node-step-requires
step_node-step-requires t c =
    let h = rw c.in-Cat.is at c.requires.measured in
    let p = pair-Cat _ c.in-Cat.first c.in-Cat.second h in
    let fits = rw c.in-Cat.is at c.requires.fits in
    let w = width-Cat _ _ _ h in (
      search (rules, the_lemmas),
      (rw c.deref-in-Cat.ensures (omega (arith, fits, w, p.whole_is)), (rw c.deref-in-Cat.ensures p.first, (c.requires.rising, c.requires.set))),
    )

pub step_node-step-requires-in-Cat : goal.step_node-step-requires-in-Cat
step_node-step-requires-in-Cat t c =
    let h = rw c.in-Cat.is at c.requires.measured in
    let p = pair-Cat _ c.in-Cat.first c.in-Cat.second h in
    let fits = rw c.in-Cat.is at c.requires.fits in
    let w = width-Cat _ _ _ h in
    let v = rw c.deref-in-Cat-3.ensures at c.width.ensures in
    let a = c.after.ensures.base in
    let s = rw c.deref-in-Cat.ensures at c.in_ok-left-in-Cat.ensures in (
      search (rules, the_lemmas),
      (rw c.deref-in-Cat-2.ensures (omega (arith, fits, w, p.whole_is, v, a)), (rw c.deref-in-Cat-2.ensures p.second, (c.requires.rising, rw (a, v) s.set))),
    )

pub step_node-step-requires-in-Alt : goal.step_node-step-requires-in-Alt
step_node-step-requires-in-Alt t c =
    let h = rw c.in-Alt.is at c.requires.measured in
    let p = pair-Alt _ c.in-Alt.first c.in-Alt.second h in
    let fits = rw c.in-Alt.is at c.requires.fits in
    let w = width-Alt _ _ _ h in (
      search (rules, the_lemmas),
      (rw c.deref-in-Alt.ensures (omega (arith, fits, w, p.whole_is)), (rw c.deref-in-Alt.ensures p.first, (c.requires.rising, c.requires.set))),
    )

pub step_node-step-requires-in-Alt-2 : goal.step_node-step-requires-in-Alt-2
step_node-step-requires-in-Alt-2 t c =
    let h = rw c.in-Alt.is at c.requires.measured in
    let p = pair-Alt _ c.in-Alt.first c.in-Alt.second h in
    let fits = rw c.in-Alt.is at c.requires.fits in
    let w = width-Alt _ _ _ h in
    let v = rw c.deref-in-Alt-2.ensures at c.width-in-Alt.ensures in
    let a = c.after-beside.ensures.base in
    let s = rw c.deref-in-Alt.ensures at c.in_ok-one-in-Alt.ensures in (
      search (rules, the_lemmas),
      (rw c.deref-in-Alt-3.ensures (omega (arith, fits, w, p.whole_is, v, a)), (rw c.deref-in-Alt-3.ensures p.second, (c.requires.rising, rw (a, v) s.set))),
    )

pub step_node-width-requires-clause-measured : goal.step_node-width-requires-clause-measured
step_node-width-requires-clause-measured t c =
    rw c.deref-in-Cat-3.ensures (pair-Cat _ c.in-Cat.first c.in-Cat.second (rw c.in-Cat.is at c.requires.measured)).first

pub step_node-width-requires-in-Alt-clause-measured : goal.step_node-width-requires-in-Alt-clause-measured
step_node-width-requires-in-Alt-clause-measured t c =
    rw c.deref-in-Alt-2.ensures (pair-Alt _ c.in-Alt.first c.in-Alt.second (rw c.in-Alt.is at c.requires.measured)).first
