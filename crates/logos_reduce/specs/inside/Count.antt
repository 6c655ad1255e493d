-- The number of blocks, and the number of pairs of states in the same block.
use Rattle.std.specs.Prelude.{◌+◌, ℕ, zero, suc, Bool, false, ◌||◌, ◌==◌, if◌then◌else◌}

-- The sum of a function at the first numbers.
abbrev pub sum_below : ℕ → (ℕ → ℕ) → ℕ
sum_below zero f = 0
sum_below (suc n) f = f n + sum_below n f

-- The number of pairs of states in the same block.
abbrev pub pairs_together : ℕ → (ℕ → ℕ) → ℕ
pairs_together n block = sum_below n (λ s. sum_below n (λ t. if block s == block t then 1 else 0))

-- One of the first `n` states is in the block of the state.
abbrev pub is_repeated : (ℕ → ℕ) → ℕ → ℕ → Bool
is_repeated block zero s = false
is_repeated block (suc n) s = (block n == block s) || is_repeated block n s

-- The number of blocks of the first states.
abbrev pub count_blocks : ℕ → (ℕ → ℕ) → ℕ
count_blocks n block = sum_below n (λ s. if is_repeated block s s then 0 else 1)
