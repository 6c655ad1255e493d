-- Sizes of texts, and least values.
use Rattle.std.proofs.Common.{◌≡◌, ℕ, min, Bool, false, cond, ◌&&◌, List, [], ◌∷◌, length, chars, refl, sym, ap, ap₂, ◌∙◌, arith}
use Rattle.std.specs.Cmp.Lexicographic.{pointwise}
use Rattle.logos_hir.specs.declared.hir.Range.{Range}
use Rattle.logos_hir.specs.Hir.{pairs}
use Rattle.logos_hir.specs.Measure.{is_same}
use Rattle.std.specs.Str.{is_utf8, IsUtf8}
use Rattle.std.proofs.lemmas.Str.{IsUtf8-from_is_utf8, is_utf8-from_IsUtf8}
use Rattle.std.proofs.lemmas.Bool.{false_from_ne_true}
use Rattle.logos_hir.specs.Tree.{Tree, Trees, none, also}
use Rattle.logos_hir.specs.Priority.{value, least_value, text_size}
use Rattle.logos_hir.specs.inside.MeasureSteps.{least_with}

pub is_utf8-false : (text : List ℕ) → (IsUtf8 text → ⊥) → is_utf8 text ≡ false
is_utf8-false text h = false_from_ne_true (is_utf8 text) (λ e. h (IsUtf8-from_is_utf8 text e))

pub text_size-chars : (text : List ℕ) → IsUtf8 text → text_size text ≡ length (chars text)
text_size-chars text h = ap (λ b. cond b (length (chars text)) (length text)) (is_utf8-from_IsUtf8 text h)

pub text_size-bytes : (text : List ℕ) → (IsUtf8 text → ⊥) → text_size text ≡ length text
text_size-bytes text h = ap (λ b. cond b (length (chars text)) (length text)) (is_utf8-false text h)

least_with-min : (a b : ℕ) (ts : Trees) → least_with (min a b) ts ≡ min a (least_with b ts)
least_with-min a b none = refl
least_with-min a b (also t ts) =
    let e : min (min a b) (value t) ≡ min a (min b (value t)) = omega arith in
    ap (λ n. least_with n ts) e ∙ least_with-min a (min b (value t)) ts

-- the least value of some trees is the least with that of the first
pub least_value-first : (t : Tree) (ts : Trees) → least_value (also t ts) ≡ least_with (value t) ts
least_value-first t none = refl
least_value-first t (also u us) = ap (min (value t)) (least_value-first u us) ∙ sym (least_with-min (value t) (value u) us)

-- ranges that a test finds the same are the same pairs
pub same_pairs : (E : Range → Range → Bool) → ((a b : Range) → E a b ≡ is_same (a.first, a.last) (b.first, b.last)) →
    (xs ys : List Range) → pointwise E xs ys ≡ pointwise is_same (pairs xs) (pairs ys)
same_pairs E h [] [] = refl
same_pairs E h [] (y ∷ ys) = refl
same_pairs E h (x ∷ xs) [] = refl
same_pairs E h (x ∷ xs) (y ∷ ys) = ap₂ ◌&&◌ (h x y) (same_pairs E h xs ys)
