-- Operands of a bracket: their effect on each character.
use Rattle.std.proofs.Common.{◌≡◌, ℕ, Bool, true, false, cond, not, ◌&&◌, ◌||◌, List, [], ◌∷◌, ◌++◌, Option, Some, None, refl, sym, ap, ap₂, ◌∙◌}
use Rattle.std.proofs.lemmas.Bool.{le-leb}
use Rattle.std.proofs.Math.Path.{fun_ext}
use lib.Utf8.{scalar}
use Rattle.logos_hir.specs.declared.sets.operands.SetOperator.{SetOperator}
use Rattle.logos_hir.specs.declared.sets.operands.SetOperator.TheVariants.{Intersection, Difference, SymmetricDifference}
use Rattle.logos_hir.specs.declared.sets.operands.Effect.{Effect}
use Rattle.logos_hir.specs.Hir.{pairs}
use Rattle.logos_hir.specs.Sets.{Set, members, union, intersection, difference, complement}
use Rattle.logos_hir.specs.RangeSets.{set_of}
use Rattle.logos_hir.specs.Operands.{combination, with_operand, selection, effects_on}
use Rattle.logos_hir.proofs.lemmas.RangeLemmas.{char_bound}

pub chosen_by_parts : (test inside outside : Set) → union (intersection test inside) (difference outside test) ≡ selection test inside outside
chosen_by_parts test inside outside = fun_ext (λ c. at (test c) (inside c) (outside c))
  where
    at : (t a b : Bool) → ((t && a) || (b && not t)) ≡ cond t a b
    at true true true = refl
    at true true false = refl
    at true false true = refl
    at true false false = refl
    at false a true = refl
    at false a false = refl

-- a complement at a character
complement_at : (set : Set) (c : ℕ) → scalar c ≡ true → complement 0x10_FFFF set c ≡ not (set c)
complement_at set c h = rw (h, le-leb c 0x10_FFFF (char_bound c h)) refl

-- ---- effects

-- the images of members are in the second set, and the added members are in the first
abbrev pub IsMade : Set → Set → (Set → Set) → Type 0
IsMade outside inside f = (before : Set) (c : ℕ) → scalar c ≡ true → f before c ≡ selection before inside outside c

pub first_operand : (set : Set) → IsMade set set (λ before. with_operand None before set)
first_operand set before c h = at (before c)
  where
    at : (b : Bool) → set c ≡ cond b (set c) (set c)
    at true = refl
    at false = refl

pub by_intersection : (set : Set) → IsMade (λ c. false) set (λ before. combination Intersection before set)
by_intersection set before c h = at (before c)
  where
    at : (b : Bool) → (b && set c) ≡ cond b (set c) false
    at true = refl
    at false = refl

pub by_difference : (set : Set) → IsMade (λ c. false) (complement 0x10_FFFF set) (λ before. combination Difference before set)
by_difference set before c h = at (before c) (complement_at set c h)
  where
    at : (b : Bool) → complement 0x10_FFFF set c ≡ not (set c) → (b && not (set c)) ≡ cond b (complement 0x10_FFFF set c) false
    at true e = sym e
    at false e = refl

pub by_symmetric_difference : (set : Set) → IsMade set (complement 0x10_FFFF set) (λ before. combination SymmetricDifference before set)
by_symmetric_difference set before c h = at (before c) (complement_at set c h)
  where
    at : (b : Bool) → complement 0x10_FFFF set c ≡ not (set c) → cond b (not (set c)) (set c) ≡ cond b (complement 0x10_FFFF set c) (set c)
    at true e = sym e
    at false e = refl

-- the sets are equal, and the functions have equal values
pub same_made : (outside outside2 inside inside2 : Set) (f f2 : Set → Set) → outside ≡ outside2 → inside ≡ inside2 → ((before : Set) → f before ≡ f2 before) →
    IsMade outside2 inside2 f2 → IsMade outside inside f
same_made outside outside2 inside inside2 f f2 eo ei ef h before c char =
    ap (λ (s : Set). s c) (ef before) ∙ h before c char ∙ ap₂ (λ (i o : Set). selection before i o c) (sym ei) (sym eo)

-- one effect, and then another
pub one_then_other : (before o i p j : Set) → selection before (selection i j p) (selection o j p) ≡ selection (selection before i o) j p
one_then_other before o i p j = fun_ext (λ c. at (before c) (cond (i c) (j c) (p c)) (cond (o c) (j c) (p c)) (i c) (o c) (j c) (p c) refl refl)
  where
    at : (b x y k l m n : Bool) → x ≡ cond k m n → y ≡ cond l m n → cond b x y ≡ cond (cond b k l) m n
    at true x y k l m n e f = e
    at false x y k l m n e f = f

-- ---- lists of effects

pub effects_on-push : (es : List Effect) (e : Effect) (before : Set) → effects_on (es ++ e ∷ []) before ≡ selection (effects_on es before) (set_of e.inside) (set_of e.outside)
effects_on-push [] e before = refl
effects_on-push (x ∷ es) e before = effects_on-push es e (selection before (set_of x.inside) (set_of x.outside))

-- numbers that are not characters are not members
no_character : (xs : List (ℕ × ℕ)) (c : ℕ) → scalar c ≡ false → members xs c ≡ false
no_character xs c h = rw h refl

outside_operand : (o : Option SetOperator) (before : Set) (xs : List (ℕ × ℕ)) (c : ℕ) → scalar c ≡ false → before c ≡ false → with_operand o before (members xs) c ≡ false
outside_operand None before xs c h e = rw h refl
outside_operand (Some Intersection) before xs c h e = rw e refl
outside_operand (Some Difference) before xs c h e = rw e refl
outside_operand (Some SymmetricDifference) before xs c h e = rw (e, h) refl

-- effects on the empty set, in the same way
outside_effects : (es : List Effect) (before : Set) (c : ℕ) → scalar c ≡ false → before c ≡ false → effects_on es before c ≡ false
outside_effects [] before c h e = e
outside_effects (x ∷ es) before c h e =
    outside_effects es (selection before (set_of x.inside) (set_of x.outside)) c h
    (ap (λ b. cond b (set_of x.inside c) (set_of x.outside c)) e ∙ no_character (pairs x.outside.ranges.items) c h)

-- an operand after others
pub one_more : (es : List Effect) (o : Option SetOperator) (xs ins outs : List (ℕ × ℕ)) → IsMade (members outs) (members ins) (λ before. with_operand o before (members xs)) →
    selection (effects_on es (λ n. false)) (members ins) (members outs) ≡ with_operand o (effects_on es (λ n. false)) (members xs)
one_more es o xs ins outs h = fun_ext (λ c. at c (scalar c) refl)
  where
    at : (c : ℕ) (b : Bool) → scalar c ≡ b → selection (effects_on es (λ n. false)) (members ins) (members outs) c ≡ with_operand o (effects_on es (λ n. false)) (members xs) c
    at c true char = sym (h (effects_on es (λ n. false)) c char)
    at c false char =
        let none = outside_effects es (λ n. false) c char refl in
        ap (λ b. cond b (members ins c) (members outs c)) none ∙ no_character outs c char ∙ sym (outside_operand o (effects_on es (λ n. false)) xs c char none)
