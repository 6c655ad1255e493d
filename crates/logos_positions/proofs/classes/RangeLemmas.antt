-- Ranges, one after another.
use Rattle.std.proofs.Common.{◌≡◌, ℕ, ◌<◌, Bool, true, false, ◌&&◌, ◌||◌, List, [], ◌∷◌, ◌++◌, refl, sym, ap, ◌∙◌, arith, nat_le, le-leb}
use Rattle.std.proofs.lemmas.Bool.{and_from}
use Rattle.logos_positions.specs.inside.Ranges.{in_range, in_ranges, IsPart, AreParts}
use Rattle.logos_positions.specs.declared.characters.ranges.CharRange.{CharRange}

or_assoc : (a b c : Bool) → ((a || b) || c) ≡ (a || (b || c))
or_assoc true b c = refl
or_assoc false b c = refl

or_false : (a : Bool) → (a || false) ≡ a
or_false true = refl
or_false false = refl

pub in_ranges-push : (xs : List CharRange) (r : CharRange) (o : ℕ) → in_ranges (xs ++ r ∷ []) o ≡ (in_ranges xs o || in_range r o)
in_ranges-push [] r o = or_false (in_range r o)
in_ranges-push (x ∷ xs) r o = ap (λ b. in_range x o || b) (in_ranges-push xs r o) ∙ sym (or_assoc (in_range x o) (in_ranges xs o) (in_range r o))

pub AreParts-push : (n : ℕ) (xs : List CharRange) (r : CharRange) → AreParts n xs → IsPart n r → AreParts n (xs ++ r ∷ [])
AreParts-push n [] r h p = (p, tt)
AreParts-push n (x ∷ xs) r h p = (h.0, AreParts-push n xs r h.1 p)

-- a list of parts has an offset if it is not empty
pub part_of : (n : ℕ) (r : CharRange) (rs : List CharRange) → AreParts n (r ∷ rs) → (o : ℕ) × (o < n) × (in_ranges (r ∷ rs) o ≡ true)
part_of n r rs h =
    let f : (nat_le r.first r.first && nat_le r.first r.last) ≡ true = and_from _ _ (le-leb r.first r.first (omega arith)) (le-leb r.first r.last h.0.0) in
    (r.first, omega (arith, h.0.0, h.0.1), ap (λ b. b || in_ranges rs r.first) f)
