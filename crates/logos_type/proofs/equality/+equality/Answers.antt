use Rattle.std.proofs.Common.{◌≡◌, ◌≤◌, length, arith, true, false, refl}
use Rattle.logos_type.proofs.EqualityLemmas.{next_differs, next_same, both_ended, same_whole, same_still}
use Rattle.logos_type.proofs.equality.+equality.Goals as goal

pub are_same_parts-returns-then-not-is_same_part : goal.are_same_parts-returns-then-not-is_same_part
are_same_parts-returns-then-not-is_same_part t c =
    let bound = rw c.if-parts-others.false at c.loop-index-test.true in
    let no = c.if-not-is_same_part.ensures in (
      λ e. absurd (let k : false ≡ true = e in cc),
      λ same. no.1 (next_differs c.args.parts.now c.args.others.now _ _ _ c.loop-index-test.true bound c.index-parts-index.is c.index-others-index.is (c.loop-index.invariant.0 same)),
    )

pub are_same_parts-loop-index-preserved : goal.are_same_parts-loop-index-preserved
are_same_parts-loop-index-preserved t c =
    let bound = rw c.if-parts-others.false at c.loop-index-test.true in
    let one = (c.if-not-is_same_part.ensures).0 refl in
    let step = next_same c.args.parts.now c.args.others.now _ _ _ c.loop-index-test.true bound c.index-parts-index.is c.index-others-index.is one in
    (λ same. step.0 (c.loop-index.invariant.0 same), λ same. c.loop-index.invariant.1 (step.1 same))

pub are_same_parts-returns : goal.are_same_parts-returns
are_same_parts-returns t c =
    let past : length c.args.parts.now ≤ c.loop-index.index = omega (arith, c.loop-index-test.false) in
    (λ e. c.loop-index.invariant.1 (both_ended c.args.parts.now c.args.others.now _ past c.if-parts-others.false), λ same. refl)

pub is_same_part-returns-in-Whole-Whole : goal.is_same_part-returns-in-Whole-Whole
is_same_part-returns-in-Whole-Whole t c =
    same_whole c.args.part.now c.args.other.now c.in-Whole-Whole.parts c.in-Whole-Whole.others c.in-Whole-Whole.is-0 c.in-Whole-Whole.is-1 (rw (c.deref.ensures.value, c.deref-in-Whole-Whole.ensures.value) at c.are_same_parts.ensures)

pub is_same_part-returns-in-Still-Still : goal.is_same_part-returns-in-Still-Still
is_same_part-returns-in-Still-Still t c =
    same_still c.args.part.now c.args.other.now c.in-Still-Still.parts c.in-Still-Still.others c.in-Still-Still.is-0 c.in-Still-Still.is-1 (rw (c.deref-in-Still-Still.ensures.value, c.deref-in-Still-Still-2.ensures.value) at c.are_same_parts-in-Still-Still.ensures)
