-- The size of rules, and sizes up to the limit.
use Rattle.std.specs.Prelude.{◌≡◌, ◌<◌, ◌≤◌, ◌^◌, ℕ, List, sum_by, Option, MatchOption}
use Rattle.logos_positions.specs.Size.{size}
use Rattle.logos_automaton.specs.Munch.{Rule}

-- The number, if it is at most 1,048,576.
abbrev pub IsWithinLimit : ℕ → Option ℕ → Type 0
IsWithinLimit n limited = MatchOption limited (2 ^ 20 < n) (λ m. (m ≡ n) × (n ≤ 2 ^ 20))

-- The size of all trees.
abbrev pub size_of : List Rule → ℕ
size_of rules = sum_by (λ rule. size rule.tree) rules
