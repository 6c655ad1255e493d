-- The number of positions of repetitions.
use Rattle.std.proofs.Common.{◌≡◌, ℕ, zero, suc, ◌+◌, ◌-◌, ◌*◌, ◌<◌, ◌≤◌, max, Option, Some, None, refl, ap, arith}
use Rattle.std.proofs.Math.Nat.{le-mul_of_pos_right}
use Rattle.logos_positions.specs.Core as core
use Rattle.logos_positions.specs.Core.{Core, width}
use Rattle.logos_positions.specs.Repeat.{IsOrdered, count_of, in_front, up_to, at_least, repeated}

pub width-in_front : (n : ℕ) (a b : Core) → width (in_front n a b) ≡ width a * n + width b
width-in_front zero a b = omega arith
width-in_front (suc n) a b = omega (arith, width-in_front n a b)

width-up_to : (n : ℕ) (a : Core) → width (up_to n a) ≡ width a * n
width-up_to zero a = omega arith
width-up_to (suc n) a = omega (arith, width-up_to n a)

pub width-repeated : (min : ℕ) (max : Option ℕ) (a : Core) → IsOrdered min max → width (repeated min max a) ≡ width a * count_of min max
width-repeated zero None a h = omega arith
width-repeated (suc min) None a h =
    let e : count_of (suc min) None ≡ suc min = omega arith in
    rw e (omega (arith, width-in_front min a (core.plus a)))
width-repeated min (Some max) a h =
    let e : max ≡ min + (max - min) = omega arith in
    let f : width a * max ≡ width a * (min + (max - min)) = ap (λ k. width a * k) e in
    omega (arith, width-in_front min a (up_to (max - min) a), width-up_to (max - min) a, f)

pub width-body : (min : ℕ) (max : Option ℕ) (a : Core) → IsOrdered min max → width a ≤ width (repeated min max a)
width-body min None a h =
    let some : 0 < count_of min None = omega arith in
    rw (width-repeated min None a h) (le-mul_of_pos_right (width a) some)
width-body min (Some max) a h = rw (width-repeated min (Some max) a h) (le-mul_of_pos_right (width a) h.1)

pub width-plus : (min : ℕ) (a : Core) → (min ≡ 0 → ⊥) → width (at_least min a) ≡ width a * (min - 1) + width a
width-plus zero a some = absurd (some refl)
width-plus (suc n) a some =
    let back : suc n - 1 ≡ n = omega arith in rw back (width-in_front n a (core.plus a))
