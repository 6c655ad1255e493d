-- The definitions at small inputs.
use Rattle.std.proofs.Common.{◌≡◌, ◌≢◌, ℕ, zero, suc, ◌+◌, ◌≤◌, ◌<◌, true, false, List, [], ◌∷◌, take, drop, max, IsTrue, length, None, Some, refl, arith}
use Rattle.logos_hir.specs.Tree.{Tree, literal, char_class, repetition, capture, concat, none, also}
use Rattle.logos_hir.specs.Matches.{Matches}
use Rattle.logos_hir.specs.Text.{OccursAt, IsBytes}
use Rattle.logos_automaton.specs.Munch.{Rule, RuleMatches, priority_of, IsBest, Grows, IsStop}
use Rattle.logos_positions.specs.Positions.{Reads, byte_of, within}
use Rattle.logos_hir.proofs.tree.Bounds.{matches_within}
use Rattle.logos_hir.specs.Passable.{passable}

-- `([a&&b])*`
pub empty_class_star : passable (repetition 0 None true (capture (char_class []))) ≡ true
empty_class_star = refl

-- `a+?` matches all of `aaa`
abbrev pub lazy_plus : Tree
lazy_plus = repetition 1 None false (literal (97 ∷ []))

abbrev pub aaa : List ℕ
aaa = 97 ∷ 97 ∷ 97 ∷ []

pub lazy_plus_matches : Matches lazy_plus aaa 0 3
lazy_plus_matches =
    (3, (omega arith, tt), (1, record { end = refl; here = refl }, (2, record { end = refl; here = refl }, (3, record { end = refl; here = refl }, refl))))

abbrev pub plain : Tree → Rule
plain t = record { tree = t; priority = 2; use_of = record { skips = false; calls_back = false } }

-- so a lazy repetition takes the longest match
pub lazy_plus_is_best : IsBest (plain lazy_plus ∷ []) aaa 0 3 0
lazy_plus_is_best = record {
  nonempty = omega arith;
  longest = longest;
  chosen = record { matches = lazy_plus_matches; first = first };
}
  where
    longest : (other end : ℕ) → RuleMatches (plain lazy_plus ∷ []) other aaa 0 end → end ≤ 3
    longest zero end m = (matches_within lazy_plus aaa 0 end m (omega arith)).1
    longest (suc k) end m = absurd m

    first : (other : ℕ) → other ≢ 0 → RuleMatches (plain lazy_plus ∷ []) other aaa 0 3 → priority_of (plain lazy_plus ∷ []) other < 2
    first zero d m = absurd (d refl)
    first (suc k) d m = absurd m

-- of `abcd` and `a` on `abc` the second is best
abbrev pub abcd_or_a : List Rule
abcd_or_a = record (plain (literal (97 ∷ 98 ∷ 99 ∷ 100 ∷ []))) { priority = 8 } ∷ plain (literal (97 ∷ [])) ∷ []

pub second_is_best : IsBest abcd_or_a (97 ∷ 98 ∷ 99 ∷ []) 0 1 1
second_is_best = record {
  nonempty = omega arith;
  longest = longest;
  chosen = record { matches = record { end = refl; here = refl }; first = first };
}
  where
    longest : (other end : ℕ) → RuleMatches abcd_or_a other (97 ∷ 98 ∷ 99 ∷ []) 0 end → end ≤ 1
    longest zero end m = let within = (matches_within (literal (97 ∷ 98 ∷ 99 ∷ 100 ∷ [])) (97 ∷ 98 ∷ 99 ∷ []) 0 end m (omega arith)).1 in omega (arith, m.end, within)
    longest (suc zero) end m = omega (arith, m.end)
    longest (suc (suc k)) end m = absurd m

    first : (other : ℕ) → other ≢ 1 → RuleMatches abcd_or_a other (97 ∷ 98 ∷ 99 ∷ []) 0 1 → priority_of abcd_or_a other < 2
    first zero d m = let e : 1 ≡ 0 + 4 = m.end in omega (arith, e)
    first (suc zero) d m = absurd (d refl)
    first (suc (suc k)) d m = absurd m

-- `a*b` on `aaa`
abbrev pub star_b : Tree
star_b = concat (also (repetition 0 None true (literal (97 ∷ []))) (also (literal (98 ∷ [])) none))

pub star_b_stop : IsStop (plain star_b ∷ []) true aaa 0 3
star_b_stop = record {
  may_stop = record { nonempty = omega arith; covers = λ n h g. omega (arith, h); boundary = λ t. (omega arith, λ h. absurd (not_less h)) };
  least = λ other m. m.covers 3 (omega arith) grows;
}
  where
    not_less : 3 < 3 → ⊥
    not_less h = omega (arith, h)

    are : IsBytes (98 ∷ [])
    are zero d h = omega arith
    are (suc k) d h = omega (arith, h)

    a : OccursAt (97 ∷ []) (97 ∷ 97 ∷ 97 ∷ 98 ∷ []) 0 1
    a = record { end = refl; here = refl }

    a' : OccursAt (97 ∷ []) (97 ∷ 97 ∷ 97 ∷ 98 ∷ []) 1 2
    a' = record { end = refl; here = refl }

    a'' : OccursAt (97 ∷ []) (97 ∷ 97 ∷ 97 ∷ 98 ∷ []) 2 3
    a'' = record { end = refl; here = refl }

    grows : Grows (plain star_b ∷ []) aaa
    grows = record { more = 98 ∷ []; after = []; are_bytes = are; leaf = 0; matches = (3, (3, (omega arith, tt), (1, a, (2, a', (3, a'', refl)))), (4, record { end = refl; here = refl }, refl)) }

-- the parts of a key: `a{2}` after `a` has read its first copy, and after `aa` its second
pub first_copy : Reads (repetition 2 (Some 2) true (literal (97 ∷ []))) (97 ∷ []) 0 (within 1 (byte_of 0)) 0
first_copy = (0, 0, byte_of 0, omega arith, refl, (0, omega arith, refl, refl, record { end = refl; here = refl }), refl)

pub second_copy : Reads (repetition 2 (Some 2) true (literal (97 ∷ []))) (97 ∷ 97 ∷ []) 0 (within 2 (byte_of 0)) 1
second_copy = (1, 1, byte_of 0, omega arith, (1, record { end = refl; here = refl }, refl), (0, omega arith, refl, refl, record { end = refl; here = refl }), refl)

-- Where an error ends, in the words of the longest beginning that grows: after it, and after a byte
-- at least.
pub stop_is_longest : (rules : List Rule) (bytes : List ℕ) (from n to : ℕ) → n ≤ length (drop from bytes) →
    Grows rules (take n (drop from bytes)) →
    ((m : ℕ) → m ≤ length (drop from bytes) → Grows rules (take m (drop from bytes)) → m ≤ n) →
    IsStop rules false bytes from to → to ≡ max (from + 1) (from + n)
stop_is_longest rules bytes from n to fits grows longest stop =
    let above = stop.may_stop.covers n fits grows in
    let past = stop.may_stop.nonempty in
    let below = stop.least (max (from + 1) (from + n)) (record { nonempty = omega arith; covers = λ m h g. let k = longest m h g in omega (arith, k); boundary = λ t. absurd (false_is_not_true t) }) in
    omega (arith, above, past, below)
  where
    false_is_not_true : IsTrue false → ⊥
    false_is_not_true h = cc
