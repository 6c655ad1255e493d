-- The number of digits of a number.
use Rattle.std.proofs.Common.{◌≤◌, ◌<◌, ◌^◌, ℕ, length, arith}
use Rattle.std.specs.Fmt.{decimal}
use Rattle.std.proofs.lemmas.Fmt.{length-decimal-le}

-- a number of 64 bits has at most twenty digits
pub few_digits : (n : ℕ) → n < 2 ^ 64 → length (decimal n) ≤ 20
few_digits n fits = length-decimal-le 20 n (omega arith) (omega (arith, fits)) fits
