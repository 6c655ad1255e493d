-- Lines of items.
use Rattle.std.proofs.Common.{◌≡◌, ℕ, suc, ◌+◌, ◌-◌, ◌<◌, ◌≤◌, ◌^◌, List, [], ◌∷◌, length, drop, refl, ap, arith}
use Rattle.std.specs.Fmt.{decimal}
use Rattle.std.proofs.lemmas.Fmt.{length-decimal-le}
use Rattle.std.proofs.lemmas.List.{length-drop}

-- a number has at most 20 digits
pub few_digits : (n : ℕ) → n < 2 ^ 64 → length (decimal n) ≤ 20
few_digits n h = length-decimal-le 20 n (omega arith) (omega (arith, h)) h

empty : (rest : List ℕ) → length rest ≡ 0 → rest ≡ []
empty [] h = refl
empty (byte ∷ rest) h = absurd (omega (arith, h))

-- nothing follows the last byte of a line
pub nothing_left : (line rest : List ℕ) (at byte : ℕ) → length line ≡ 70 → at + 1 ≡ 70 → drop at line ≡ byte ∷ rest → rest ≡ []
nothing_left line rest at byte long row_start e =
    let left : length (drop at line) ≡ length line - at = length-drop at line in
    let same : length (drop at line) ≡ suc (length rest) = ap length e in
    empty rest (omega (arith, left, same, long, row_start))
