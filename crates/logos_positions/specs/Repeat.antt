-- Repetitions and literals as core patterns.
use Rattle.std.specs.Prelude.{ℕ, zero, suc, ◌-◌, ◌<◌, ◌≤◌, max, ◌==◌, List, [], ◌∷◌, Option, Some, None}
use Rattle.logos_positions.specs.Core as core
use Rattle.logos_positions.specs.Core.{Core}

-- The pattern `n` times, followed by `b`.
abbrev pub in_front : ℕ → Core → Core → Core
in_front zero a b = b
in_front (suc n) a b = core.cat a (in_front n a b)

-- `a{0,n}` is `(a(a(a)?)?)?`.
abbrev pub up_to : ℕ → Core → Core
up_to zero a = core.empty
up_to (suc n) a = core.alt (core.cat a (up_to n a)) core.empty

-- `a{n,}` is `aaa+`.
abbrev pub at_least : ℕ → Core → Core
at_least zero a = core.alt (core.plus a) core.empty
at_least (suc n) a = in_front n a (core.plus a)

-- The core pattern of a repetition with these counts.
abbrev pub repeated : ℕ → Option ℕ → Core → Core
repeated least None a = at_least least a
repeated least (Some most) a = in_front least a (up_to (most - least) a)

-- The counts are in order, and the greatest count is not zero.
abbrev pub IsOrdered : ℕ → Option ℕ → Type 0
IsOrdered least None = Unit {0}
IsOrdered least (Some most) = (least ≤ most) × (0 < most)

-- The number of copies that have their own positions.
abbrev pub count_of : ℕ → Option ℕ → ℕ
count_of least None = max least 1
count_of least (Some most) = most

-- One byte after another.
abbrev pub spelled : List ℕ → Core
spelled [] = core.empty
spelled (b ∷ bs) = core.cat (core.byte_in (λ x. x == b)) (spelled bs)
