use Rattle.std.proofs.Common.{◌≡◌, ℕ, ◌+◌, ◌-◌, ◌*◌, ◌^◌, ◌<◌, ◌≤◌, ◌⊎◌, slice_index, ⊎_elim, ap, sym, ◌∙◌, subst, true≢false, rules, arith}
use Rattle.std.proofs.lemmas.Bool.{or_left, or_right}
use Rattle.logos_positions.specs.Core.{width}
use Rattle.logos_positions.specs.Marks.{Has, IsFirstFrom}
use Rattle.logos_positions.specs.Node.{core_of}
use Rattle.logos_positions.specs.declared.node.Node.{the_lemmas}
use Rattle.logos_positions.proofs.trees.NodeLemmas.{core-Literal, core-Cat, core-Alt, core-Repeat, width-Literal, width-Cat, width-Alt, pair-Cat, pair-Alt, repeat-Repeat, width-Repeat}
use Rattle.logos_positions.proofs.steps.BranchLemmas.{some_between, none_between, ends_before, begins_after, back_some}
use Rattle.logos_automaton.specs.inside.Alike.{GoesAlike}
use Rattle.logos_automaton.proofs.keys.WalkLemmas.{alike_copy, copy_map, done_first, done_more, goes_map, goes_none, goes_repeated, leave_map, leave_none, leave_repeated, passed_copy}
use Rattle.logos_automaton.proofs.boundaries.+follow.Goals as goal

pub follow-returns-then-not-any_mark-clause-marks : goal.follow-returns-then-not-any_mark-clause-marks
follow-returns-then-not-any_mark-clause-marks t c = λ x lt unmarked. (
  unmarked,
  goes_none x (x + 1) (core_of c.args.node.now) _ (λ q below has. true≢false (sym (c.any_mark.ensures.1 (q, omega (arith, below, c.width.ensures), has)) ∙ c.if-not-any_mark.true)),
)

pub follow-returns-then-not-any_mark-clause-leaves : goal.follow-returns-then-not-any_mark-clause-leaves
follow-returns-then-not-any_mark-clause-leaves t c = λ h.
    absurd (leave_none (core_of c.args.node.now) _ (λ q below has. true≢false (sym (c.any_mark.ensures.1 (q, omega (arith, below, c.width.ensures), has)) ∙ c.if-not-any_mark.true)) h)

pub follow-follow_marked-requires : goal.follow-follow_marked-requires
follow-follow_marked-requires t c =
    let own = c.own_positions-own.ensures in
    let some = c.any_mark.ensures.0 c.if-not-any_mark.false in
    let w = width (core_of c.args.node.now) in
    let to = rw c.width-in-Alt.ensures at own.to in
    let lt = some_between c.args.marks.now c.args.base w c.own_positions-own.result.from c.own_positions-own.result.to own.from to some.0 (omega (arith, some.1, c.width.ensures)) some.2 in (
      search (rules, the_lemmas),
      (rw own.base c.requires.fits, (c.requires.measured, (c.requires.rising, (lt, (rw own.base own.from, rw own.base to))))),
    )

pub follow_marked-follow_marked-requires : goal.follow_marked-follow_marked-requires
follow_marked-follow_marked-requires t c =
    let a = core_of c.in-Alt.first.value in
    let b = core_of c.in-Alt.second.value in
    let marks = c.args.marks.now in
    let is = ap core_of c.in-Alt.is ∙ core-Alt _ c.in-Alt.first c.in-Alt.second in
    let v : c.width.result ≡ width a = rw c.deref.ensures at c.width.ensures in
    let to : IsFirstFrom marks (c.args.own.base + (width a + width b)) c.args.own.to = rw is at c.requires.to in
    let p = pair-Alt _ c.in-Alt.first c.in-Alt.second (rw c.in-Alt.is at c.requires.measured) in
    let fits : c.args.own.base + (width a + width b) < 2 ^ 64 = rw is at c.requires.fits in
    let d = c.deref-then-marks-own.ensures in
    let under : slice_index marks (c.args.own.to - 1) < c.args.own.base + width a = rw v at c.if-marks-own.true in
    let end = ends_before marks (c.args.own.base + (width a + width b)) (c.args.own.base + width a) c.args.own.from c.args.own.to c.requires.rising to c.requires.some (omega arith) under in (
      search (rules, the_lemmas),
      (rw d (omega (arith, fits)), (rw d p.first, (c.requires.rising, (c.requires.some, (c.requires.from, rw d end))))),
    )

pub follow_marked-follow_marked-requires-then-middle-marks :
    goal.follow_marked-follow_marked-requires-then-middle-marks
follow_marked-follow_marked-requires-then-middle-marks t c =
    let a = core_of c.in-Alt.first.value in
    let b = core_of c.in-Alt.second.value in
    let marks = c.args.marks.now in
    let is = ap core_of c.in-Alt.is ∙ core-Alt _ c.in-Alt.first c.in-Alt.second in
    let v : c.width.result ≡ width a = rw c.deref.ensures at c.width.ensures in
    let to : IsFirstFrom marks (c.args.own.base + (width a + width b)) c.args.own.to = rw is at c.requires.to in
    let p = pair-Alt _ c.in-Alt.first c.in-Alt.second (rw c.in-Alt.is at c.requires.measured) in
    let fits : c.args.own.base + (width a + width b) < 2 ^ 64 = rw is at c.requires.fits in
    let d = c.deref-then-middle-marks.ensures in
    let sum : c.args.own.base + (width a + width b) ≡ c.args.own.base + c.width.result + width b = omega (arith, v) in
    let begin = begins_after marks c.args.own.base (c.args.own.base + c.width.result) c.args.own.from c.requires.rising c.requires.from (omega arith) c.if-middle-marks.true in (
      search (rules, the_lemmas),
      (rw d (omega (arith, fits, v)), (rw d p.second, (c.requires.rising, (c.requires.some, (begin, rw d (rw sum at to)))))),
    )

pub follow_marked-width-requires-clause-measured : goal.follow_marked-width-requires-clause-measured
follow_marked-width-requires-clause-measured t c =
    rw c.deref.ensures (pair-Alt _ c.in-Alt.first c.in-Alt.second (rw c.in-Alt.is at c.requires.measured)).first

pub follow_marked-follow_marked-other-requires : goal.follow_marked-follow_marked-other-requires
follow_marked-follow_marked-other-requires t c =
    let a = core_of c.in-Alt.first.value in
    let b = core_of c.in-Alt.second.value in
    let marks = c.args.marks.now in
    let is = ap core_of c.in-Alt.is ∙ core-Alt _ c.in-Alt.first c.in-Alt.second in
    let v : c.width.result ≡ width a = rw c.deref.ensures at c.width.ensures in
    let to : IsFirstFrom marks (c.args.own.base + (width a + width b)) c.args.own.to = rw is at c.requires.to in
    let p = pair-Alt _ c.in-Alt.first c.in-Alt.second (rw c.in-Alt.is at c.requires.measured) in
    let fits : c.args.own.base + (width a + width b) < 2 ^ 64 = rw is at c.requires.fits in
    let d = c.deref-3.ensures in
    let parts = c.parted.ensures in
    let sum : c.args.own.base + (width a + width b) ≡ c.args.own.base + c.width.result + width b = omega (arith, v) in
    let over : c.args.own.base + c.width.result ≤ slice_index marks (c.args.own.to - 1) = omega (arith, c.if-marks-own.false) in
    let some = back_some marks (c.args.own.base + c.width.result) c.args.own.from c.args.own.to _ parts.middle c.requires.some over in (
      search (rules, the_lemmas),
      (rw (parts.after, d) (omega (arith, fits, v)), (rw d p.second, (c.requires.rising, (rw (parts.meet, parts.to) some, (rw (parts.after, parts.meet) parts.middle, rw (parts.after, parts.to, d) (rw sum at to)))))),
    )

pub follow-returns-in-Alt-clause-leaves : goal.follow-returns-in-Alt-clause-leaves
follow-returns-in-Alt-clause-leaves t c = λ h. (rw c.own_positions-own.ensures.base at c.follow_marked.ensures.leaves) h

pub follow_marked-returns-then-marks-own-clause-marks :
    goal.follow_marked-returns-then-marks-own-clause-marks
follow_marked-returns-then-marks-own-clause-marks t c = λ x lt unmarked.
    let a = core_of c.in-Alt.first.value in
    let b = core_of c.in-Alt.second.value in
    let marks = c.args.marks.now in
    let base = c.args.own.base in
    let is = ap core_of c.in-Alt.is ∙ core-Alt _ c.in-Alt.first c.in-Alt.second in
    let v : c.width.result ≡ width a = rw c.deref.ensures at c.width.ensures in
    let to : IsFirstFrom marks (base + (width a + width b)) c.args.own.to = rw is at c.requires.to in
    let under : slice_index marks (c.args.own.to - 1) < base + width a = rw v at c.if-marks-own.true in
    let end = ends_before marks (base + (width a + width b)) (base + width a) c.args.own.from c.args.own.to c.requires.rising to c.requires.some (omega arith) under in
    let sum : base + (width a + width b) ≡ base + width a + width b = omega arith in
    let none = λ (q : ℕ) (below : q < width b) (has : Has marks (base + (width a + q))).
    none_between marks (base + width a) (width b) _ _ end (rw sum at to) (omega arith) q below (subst (Has marks) (omega arith) has) in
    let front = rw c.deref-then-marks-own.ensures at c.follow_marked.ensures.marks x lt unmarked in
    (front.0, rw is (front.1, goes_none x (x + 1) b _ none))

pub follow_marked-returns-then-marks-own-clause-leaves :
    goal.follow_marked-returns-then-marks-own-clause-leaves
follow_marked-returns-then-marks-own-clause-leaves t c =
    let a = core_of c.in-Alt.first.value in
    let b = core_of c.in-Alt.second.value in
    let marks = c.args.marks.now in
    let base = c.args.own.base in
    let is = ap core_of c.in-Alt.is ∙ core-Alt _ c.in-Alt.first c.in-Alt.second in
    let v : c.width.result ≡ width a = rw c.deref.ensures at c.width.ensures in
    let to : IsFirstFrom marks (base + (width a + width b)) c.args.own.to = rw is at c.requires.to in
    let under : slice_index marks (c.args.own.to - 1) < base + width a = rw v at c.if-marks-own.true in
    let end = ends_before marks (base + (width a + width b)) (base + width a) c.args.own.from c.args.own.to c.requires.rising to c.requires.some (omega arith) under in
    let sum : base + (width a + width b) ≡ base + width a + width b = omega arith in
    let none = λ (q : ℕ) (below : q < width b) (has : Has marks (base + (width a + q))).
    none_between marks (base + width a) (width b) _ _ end (rw sum at to) (omega arith) q below (subst (Has marks) (omega arith) has) in
    let front = rw c.deref-then-marks-own.ensures at c.follow_marked.ensures.leaves in
    rw is (λ h. ⊎_elim (λ u. front u) (λ u. absurd (leave_none b _ none u)) h)

pub follow_marked-returns-then-middle-marks-clause-marks :
    goal.follow_marked-returns-then-middle-marks-clause-marks
follow_marked-returns-then-middle-marks-clause-marks t c = λ x lt unmarked.
    let a = core_of c.in-Alt.first.value in
    let b = core_of c.in-Alt.second.value in
    let marks = c.args.marks.now in
    let base = c.args.own.base in
    let is = ap core_of c.in-Alt.is ∙ core-Alt _ c.in-Alt.first c.in-Alt.second in
    let v : c.width.result ≡ width a = rw c.deref.ensures at c.width.ensures in
    let begin = begins_after marks base (base + c.width.result) c.args.own.from c.requires.rising c.requires.from (omega arith) c.if-middle-marks.true in
    let none = λ (q : ℕ) (below : q < width a) (has : Has marks (base + q)).
    none_between marks base (width a) _ _ c.requires.from (rw v at begin) (omega arith) q below has in
    let moved = λ (q : ℕ) (below : q < width b) (has : Has marks (base + (width a + q))). subst (Has marks) (omega (arith, v)) has in
    let back = rw c.deref-then-middle-marks.ensures at c.follow_marked-then-middle-marks.ensures.marks x lt unmarked in
    (back.0, rw is (goes_none x (x + 1) a _ none, goes_map x (x + 1) b (λ q. Has marks (base + c.width.result + q)) (λ q. Has marks (base + (width a + q))) moved back.1))

pub follow_marked-returns-then-middle-marks-clause-leaves :
    goal.follow_marked-returns-then-middle-marks-clause-leaves
follow_marked-returns-then-middle-marks-clause-leaves t c =
    let a = core_of c.in-Alt.first.value in
    let b = core_of c.in-Alt.second.value in
    let marks = c.args.marks.now in
    let base = c.args.own.base in
    let is = ap core_of c.in-Alt.is ∙ core-Alt _ c.in-Alt.first c.in-Alt.second in
    let v : c.width.result ≡ width a = rw c.deref.ensures at c.width.ensures in
    let begin = begins_after marks base (base + c.width.result) c.args.own.from c.requires.rising c.requires.from (omega arith) c.if-middle-marks.true in
    let none = λ (q : ℕ) (below : q < width a) (has : Has marks (base + q)).
    none_between marks base (width a) _ _ c.requires.from (rw v at begin) (omega arith) q below has in
    let moved = λ (q : ℕ) (below : q < width b) (has : Has marks (base + (width a + q))). subst (Has marks) (omega (arith, v)) has in
    let back = rw c.deref-then-middle-marks.ensures at c.follow_marked-then-middle-marks.ensures.leaves in
    rw is
    (λ h. ⊎_elim (λ u. absurd (leave_none a _ none u))
    (λ u. back (leave_map b (λ q. Has marks (base + (width a + q))) (λ q. Has marks (base + c.width.result + q)) moved u)) h)

pub follow_marked-returns-clause-marks : goal.follow_marked-returns-clause-marks
follow_marked-returns-clause-marks t c = λ x lt unmarked.
    let a = core_of c.in-Alt.first.value in
    let b = core_of c.in-Alt.second.value in
    let marks = c.args.marks.now in
    let base = c.args.own.base in
    let is = ap core_of c.in-Alt.is ∙ core-Alt _ c.in-Alt.first c.in-Alt.second in
    let v : c.width.result ≡ width a = rw c.deref.ensures at c.width.ensures in
    let moved = λ (q : ℕ) (below : q < width b) (has : Has marks (base + (width a + q))). subst (Has marks) (omega (arith, v)) has in
    let second = rw (c.parted.ensures.after, c.deref-3.ensures) at c.follow_marked-other.ensures.marks x lt unmarked in
    let first = rw (c.parted.ensures.base, c.deref-2.ensures) at c.follow_marked-one.ensures.marks x lt second.0 in
    (first.0, rw is (first.1, goes_map x (x + 1) b (λ q. Has marks (base + c.width.result + q)) (λ q. Has marks (base + (width a + q))) moved second.1))

pub follow_marked-returns-clause-leaves : goal.follow_marked-returns-clause-leaves
follow_marked-returns-clause-leaves t c =
    let a = core_of c.in-Alt.first.value in
    let b = core_of c.in-Alt.second.value in
    let marks = c.args.marks.now in
    let base = c.args.own.base in
    let is = ap core_of c.in-Alt.is ∙ core-Alt _ c.in-Alt.first c.in-Alt.second in
    let v : c.width.result ≡ width a = rw c.deref.ensures at c.width.ensures in
    let moved = λ (q : ℕ) (below : q < width b) (has : Has marks (base + (width a + q))). subst (Has marks) (omega (arith, v)) has in
    let first = rw (c.parted.ensures.base, c.deref-2.ensures) at c.follow_marked-one.ensures.leaves in
    let second = rw (c.parted.ensures.after, c.deref-3.ensures) at c.follow_marked-other.ensures.leaves in
    rw is
    (λ h. ⊎_elim (λ u. or_left _ _ (first u))
    (λ u. or_right _ _ (second (leave_map b (λ q. Has marks (base + (width a + q))) (λ q. Has marks (base + c.width.result + q)) moved u))) h)

pub follow_node-follow_literal-requires-clause-fits : goal.follow_node-follow_literal-requires-clause-fits
follow_node-follow_literal-requires-clause-fits t c =
    let fits = rw c.in-Literal.is at c.requires.fits in
    rw c.deref.ensures.value (omega (arith, fits, width-Literal c.in-Literal.text))

pub follow_node-width-requires-clause-measured : goal.follow_node-width-requires-clause-measured
follow_node-width-requires-clause-measured t c =
    rw c.deref-in-Cat-4.ensures (pair-Cat _ c.in-Cat.first c.in-Cat.second (rw c.in-Cat.is at c.requires.measured)).first

pub follow_node-follow-other-requires : goal.follow_node-follow-other-requires
follow_node-follow-other-requires t c =
    let h = rw c.in-Cat.is at c.requires.measured in
    let p = pair-Cat _ c.in-Cat.first c.in-Cat.second h in
    let fits = rw c.in-Cat.is at c.requires.fits in
    let w = width-Cat _ _ _ h in
    let v = rw c.deref-in-Cat-4.ensures at c.width.ensures in (
      search (rules, the_lemmas),
      (rw c.deref-in-Cat-3.ensures (omega (arith, fits, w, p.whole_is, v)), (rw c.deref-in-Cat-3.ensures p.second, c.requires.rising)),
    )

pub follow_node-width-requires-in-Alt-clause-measured : goal.follow_node-width-requires-in-Alt-clause-measured
follow_node-width-requires-in-Alt-clause-measured t c =
    rw c.deref-in-Alt-3.ensures (pair-Alt _ c.in-Alt.first c.in-Alt.second (rw c.in-Alt.is at c.requires.measured)).first

pub follow_node-follow-other-requires-in-Alt : goal.follow_node-follow-other-requires-in-Alt
follow_node-follow-other-requires-in-Alt t c =
    let h = rw c.in-Alt.is at c.requires.measured in
    let p = pair-Alt _ c.in-Alt.first c.in-Alt.second h in
    let fits = rw c.in-Alt.is at c.requires.fits in
    let w = width-Alt _ _ _ h in
    let v = rw c.deref-in-Alt-3.ensures at c.width-in-Alt.ensures in (
      search (rules, the_lemmas),
      (rw c.deref-in-Alt-2.ensures (omega (arith, fits, w, p.whole_is, v)), (rw c.deref-in-Alt-2.ensures p.second, c.requires.rising)),
    )

pub follow_node-follow_copies-requires : goal.follow_node-follow_copies-requires
follow_node-follow_copies-requires t c =
    let h = rw c.in-Repeat.is at c.requires.measured in
    let p = repeat-Repeat _ _ _ c.in-Repeat.body h in
    let fits = rw c.in-Repeat.is at c.requires.fits in
    let w = width-Repeat _ _ _ _ h in (
      search (rules, the_lemmas),
      (rw c.copy_count.ensures (omega (arith, fits, w)), (rw c.deref-in-Repeat.ensures p.each_is, (rw c.deref-in-Repeat.ensures p.body_is, c.requires.rising))),
    )

pub follow_node-returns-in-Literal-clause-leaves : goal.follow_node-returns-in-Literal-clause-leaves
follow_node-returns-in-Literal-clause-leaves t c =
    rw (ap core_of c.in-Literal.is ∙ core-Literal _) (λ h. rw c.deref.ensures.value at c.follow_literal.ensures.leaves h)

pub follow_node-returns-in-Cat-clause-marks : goal.follow_node-returns-in-Cat-clause-marks
follow_node-returns-in-Cat-clause-marks t c = λ x lt unmarked.
    let marks = c.args.marks.now in
    let base = c.args.base in
    let a = core_of c.in-Cat.first.value in
    let b = core_of c.in-Cat.second.value in
    let v = rw c.deref-in-Cat-4.ensures at c.width.ensures in
    let third = rw c.deref-in-Cat-3.ensures at c.follow-other.ensures.marks x lt unmarked in
    let second = rw c.deref-in-Cat-2.ensures at c.open_if-passed.ensures.marks x lt third.0 in
    let first = rw c.deref-in-Cat.ensures at c.follow-left.ensures.marks x lt second.0 in (
      first.0,
      rw (ap core_of c.in-Cat.is ∙ core-Cat _ _ _) (
        first.1,
        λ l. second.1 (rw c.deref-in-Cat.ensures at c.follow-left.ensures.leaves l),
        goes_map x (x + 1) b (λ q. Has marks (base + c.width.result + q)) (λ q. Has marks (base + (width a + q)))
            (λ q below has. subst (Has marks) (omega (arith, v)) has) third.1,
      ),
    )

pub follow_node-returns-in-Cat-clause-leaves : goal.follow_node-returns-in-Cat-clause-leaves
follow_node-returns-in-Cat-clause-leaves t c =
    let marks = c.args.marks.now in
    let base = c.args.base in
    let a = core_of c.in-Cat.first.value in
    let b = core_of c.in-Cat.second.value in
    let v = rw c.deref-in-Cat-4.ensures at c.width.ensures in
    rw (ap core_of c.in-Cat.is ∙ core-Cat _ _ _)
    (λ h. ⊎_elim
    (λ u. or_left _ _ (rw c.deref-in-Cat-2.ensures at c.open_if-passed.ensures.passes (rw c.deref-in-Cat.ensures at c.follow-left.ensures.leaves u.0) u.1))
    (λ u. or_right _ _ (rw c.deref-in-Cat-3.ensures at c.follow-other.ensures.leaves
    (leave_map b (λ q. Has marks (base + (width a + q))) (λ q. Has marks (base + c.width.result + q)) (λ q below has. subst (Has marks) (omega (arith, v)) has) u)))
    h)

pub follow_node-returns-in-Alt-clause-marks : goal.follow_node-returns-in-Alt-clause-marks
follow_node-returns-in-Alt-clause-marks t c = λ x lt unmarked.
    let marks = c.args.marks.now in
    let base = c.args.base in
    let a = core_of c.in-Alt.first.value in
    let b = core_of c.in-Alt.second.value in
    let v = rw c.deref-in-Alt-3.ensures at c.width-in-Alt.ensures in
    let second = rw c.deref-in-Alt-2.ensures at c.follow-other-in-Alt.ensures.marks x lt unmarked in
    let first = rw c.deref-in-Alt.ensures at c.follow-one.ensures.marks x lt second.0 in (
      first.0,
      rw (ap core_of c.in-Alt.is ∙ core-Alt _ _ _) (
        first.1,
        goes_map x (x + 1) b (λ q. Has marks (base + c.width-in-Alt.result + q)) (λ q. Has marks (base + (width a + q)))
            (λ q below has. subst (Has marks) (omega (arith, v)) has) second.1,
      ),
    )

pub follow_node-returns-in-Alt-clause-leaves : goal.follow_node-returns-in-Alt-clause-leaves
follow_node-returns-in-Alt-clause-leaves t c =
    let marks = c.args.marks.now in
    let base = c.args.base in
    let a = core_of c.in-Alt.first.value in
    let b = core_of c.in-Alt.second.value in
    let v = rw c.deref-in-Alt-3.ensures at c.width-in-Alt.ensures in
    rw (ap core_of c.in-Alt.is ∙ core-Alt _ _ _)
    (λ h. ⊎_elim
    (λ u. or_left _ _ (rw c.deref-in-Alt.ensures at c.follow-one.ensures.leaves u))
    (λ u. or_right _ _ (rw c.deref-in-Alt-2.ensures at c.follow-other-in-Alt.ensures.leaves
    (leave_map b (λ q. Has marks (base + (width a + q))) (λ q. Has marks (base + c.width-in-Alt.result + q)) (λ q below has. subst (Has marks) (omega (arith, v)) has) u)))
    h)

pub follow_node-returns-in-Repeat-clause-marks : goal.follow_node-returns-in-Repeat-clause-marks
follow_node-returns-in-Repeat-clause-marks t c = λ x lt unmarked.
    let marks = c.args.marks.now in
    let base = c.args.base in
    let each = c.in-Repeat.each in
    let a = core_of c.in-Repeat.body.value in
    let p = repeat-Repeat _ _ _ c.in-Repeat.body (rw c.in-Repeat.is at c.requires.measured) in
    let m = rw c.deref-in-Repeat.ensures at c.follow_copies.ensures.marks x lt unmarked in (
      m.0,
      rw (ap core_of c.in-Repeat.is ∙ core-Repeat _ _ _ _)
          (goes_repeated x (x + 1) a c.in-Repeat.least c.in-Repeat.most (λ q. Has marks (base + q)) p.ordered
          (λ k below. copy_map x (x + 1) a (λ q. Has marks (base + each * k + q)) (λ q. Has marks (base + (width a * k + q)))
          (λ q has. subst (Has marks) (let e : each * k ≡ width a * k = ap (λ n. n * k) p.each_is in omega (arith, e)) has)
          (m.1 k (omega (arith, below, c.copy_count.ensures))))),
    )

pub follow_node-returns-in-Repeat-clause-leaves : goal.follow_node-returns-in-Repeat-clause-leaves
follow_node-returns-in-Repeat-clause-leaves t c =
    let marks = c.args.marks.now in
    let base = c.args.base in
    let each = c.in-Repeat.each in
    let a = core_of c.in-Repeat.body.value in
    let p = repeat-Repeat _ _ _ c.in-Repeat.body (rw c.in-Repeat.is at c.requires.measured) in
    rw (ap core_of c.in-Repeat.is ∙ core-Repeat _ _ _ _)
    (λ h.
    let l = leave_repeated a c.in-Repeat.least c.in-Repeat.most (λ q. Has marks (base + q)) p.ordered h in
    rw c.deref-in-Repeat.ensures at c.follow_copies.ensures.leaves l.0 (omega (arith, l.1, c.copy_count.ensures))
    (leave_map a (λ q. Has marks (base + (width a * l.0 + q))) (λ q. Has marks (base + each * l.0 + q))
    (λ q below has. subst (Has marks) (let e : each * l.0 ≡ width a * l.0 = ap (λ n. n * l.0) p.each_is in omega (arith, e)) has) l.2))

pub follow_copies-loop-done-init : goal.follow_copies-loop-done-init
follow_copies-loop-done-init t c =
    let n = c.next_copy-done.ensures in
    let marks = c.args.marks.now in
    let base = c.args.copies.base in
    let each = c.args.copies.each in
    let a = core_of c.args.body.now in
    let none = passed_copy (Has marks) a base each 0 c.next_copy-done.result c.requires.each n.unmarked in
    record {
      within = n.bound;
      done = done_first _ c.args.marked.now c.next_copy-done.result (λ k x lt. goes_none x (x + 1) a _ (none k (omega arith) lt));
      leaves = λ k lt h. absurd (leave_none a _ (none k (omega arith) lt) h);
    }

pub follow_copies-loop-done-preserved : goal.follow_copies-loop-done-preserved
follow_copies-loop-done-preserved t c =
    let n = c.next_copy-done-in-loop-done.ensures in
    let marks = c.args.marks.now in
    let base = c.args.copies.base in
    let each = c.args.copies.each in
    let a = core_of c.args.body.now in
    let i = c.loop-done.invariant in
    let done = c.loop-done.done in
    let more = c.alike_copies-more.result in
    let r = c.from-rest.ensures in
    let none = passed_copy (Has marks) a base each (done + 1 + more) c.next_copy-done-in-loop-done.result c.requires.each n.unmarked in
    let like = λ (k : ℕ) (ge : done ≤ k) (le : k ≤ done + more) (q : ℕ) (below : q < width a).
    alike_copy (Has marks) base each done more c.from-rest.result.base c.from-rest.result.each k r.base r.each ge le c.alike_copies-more.ensures.same q (omega (arith, below, c.requires.each)) in
    let here = λ (q : ℕ) (has : Has marks (base + each * done + q)). subst (Has marks) (let b = r.base in omega (arith, b)) has in
    record {
      within = n.bound;
      done = done_more (λ k x y. GoesAlike a (λ q. Has marks (base + each * k + q)) x y) (λ x y. GoesAlike a (λ q. Has marks (c.from-rest.result.base + q)) x y)
          c.args.marked.now c.loop-done.marked _ done c.next_copy-done-in-loop-done.result
          (λ x g. goes_map x (x + 1) a _ (λ q. Has marks (base + each * done + q)) (λ q below has. here q has) g)
          (λ k x above below g. ⊎_elim
          (λ lt. goes_map x (x + 1) a (λ q. Has marks (base + each * done + q)) (λ q. Has marks (base + each * k + q)) (like k (omega (arith, above)) (omega (arith, lt))) g)
          (λ ge. goes_none x (x + 1) a _ (none k ge below)) (lt_or_ge k (done + 1 + more)))
          c.follow-left.ensures.marks i.done;
      leaves = λ k below h.
          ⊎_elim (λ lt. or_left c.loop-done.any c.follow-left.result (i.leaves k lt h))
          (λ ge. ⊎_elim
          (λ lt. or_right c.loop-done.any c.follow-left.result
          (c.follow-left.ensures.leaves
          (leave_map a (λ q. Has marks (base + each * k + q)) _ (λ q small has. here q (like k ge (omega (arith, lt)) q small has)) h)))
          (λ high. absurd (leave_none a _ (none k high below) h)) (lt_or_ge k (done + 1 + more)))
          (lt_or_ge k done);
    }
  where
    lt_or_ge : (a b : ℕ) → (a < b) ⊎ (b ≤ a)
    lt_or_ge a b = grind arith

pub follow_copies-returns-clause-marks : goal.follow_copies-returns-clause-marks
follow_copies-returns-clause-marks t c = λ x lt unmarked.
    let i = c.loop-done.invariant in
    let o = c.open_if.ensures.marks x lt unmarked in
    let d = i.done.done x lt o.0 in (
      d.0,
      λ k below.
          let inside : k < c.loop-done.done = omega (arith, below, c.loop-done-test.false) in
          (d.1 k inside, λ l. o.1 (i.leaves k inside l)),
    )

pub follow_copies-returns-clause-leaves : goal.follow_copies-returns-clause-leaves
follow_copies-returns-clause-leaves t c = λ k below h. c.loop-done.invariant.leaves k (omega (arith, below, c.loop-done-test.false)) h
