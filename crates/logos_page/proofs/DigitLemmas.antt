-- The number of digits of a number.
use Rattle.std.proofs.Common.{◌≡◌, ◌≤◌, ◌<◌, ◌+◌, ◌/◌, ◌^◌, ℕ, length, decimal, ap, ◌∙◌, arith, length-append}
use Rattle.std.proofs.lemmas.Fmt.{decimal_digit, decimal_step, length-decimal-le}

pub one_digit : (n : ℕ) → n < 10 → length (decimal n) ≡ 1
one_digit n l = ap length (decimal_digit n l)

pub one_more : (n : ℕ) → 10 ≤ n → n < 2 ^ 64 → length (decimal n) ≡ length (decimal (n / 10)) + 1
one_more n h l = ap length (decimal_step n h l) ∙ length-append (decimal (n / 10)) _

pub few : (n : ℕ) → n < 2 ^ 64 → length (decimal n) ≤ 20
few n l = length-decimal-le 20 n (omega arith) (omega (arith, l)) l

pub smaller : (n : ℕ) → n < 2 ^ 64 → n / 10 < 2 ^ 64
smaller n l = omega (arith, l)
