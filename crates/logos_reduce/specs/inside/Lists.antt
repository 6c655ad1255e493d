-- States that move from one block to another, and states that lead into a block.
use Rattle.std.specs.Prelude.{◌≡◌, ◌<◌, ◌⊎◌, nat_le, nat_lt, if◌then◌else◌, length, slice_index, ℕ, true, List, Vec, Option, Some}
use Rattle.std.specs.declared.alloc.Global.{Global}
use Rattle.logos_reduce.specs.Lists.{has, has_in}

-- Each of the first `n` states is in the list of its block.
abbrev pub AreFiled : ℕ → (ℕ → ℕ) → List (Vec ℕ Global) → Type 0
AreFiled n block lists = (s : ℕ) → s < n → has_in lists (block s) s ≡ true

-- The block to which the hit states of the block `c` last moved, if it is a new one, and otherwise
-- `c`.
abbrev pub twin_of : List ℕ → ℕ → ℕ → ℕ
twin_of twins fresh c = if nat_le fresh (slice_index twins c) then slice_index twins c else c

-- The block to which a hit state of the block `b` moves, which may be a new one.
abbrev pub landing : List ℕ → ℕ → ℕ → ℕ
landing twins fresh b = if nat_lt b fresh then twin_of twins fresh b else b

-- The first `i` hits are in the blocks to which they move, the other states have not moved, and
-- each state is in the list of its block.
pub record HaveMoved (n i fresh : ℕ) (old blocks twins hits : List ℕ)
    (lists : List (Vec ℕ Global)) : Type 0 where
  pub moved : (j : ℕ) → j < i →
      slice_index blocks (slice_index hits j)
      ≡ twin_of twins fresh (slice_index old (slice_index hits j))
  pub stays : (s : ℕ) → s < n →
      (slice_index blocks s ≡ slice_index old s)
      ⊎ ((has hits s ≡ true) × (slice_index blocks s ≡ twin_of twins fresh (slice_index old s)))
  pub filed : AreFiled n (slice_index blocks) lists

-- The sources contain each state that leads into the block.
abbrev pub AreSources : ℕ → (ℕ → ℕ → Option ℕ) → List ℕ → ℕ → Type 0
AreSources n target_block sources b = (s k : ℕ) → s < n → target_block s k ≡ Some b →
    has sources s ≡ true

-- The hits are the sources that lead into the block on the symbol.
pub record AreHits (n : ℕ) (target_block : ℕ → ℕ → Option ℕ)
    (sources hits : List ℕ) (b k : ℕ) : Type 0 where
  pub inside : (i : ℕ) → i < length hits → slice_index hits i < n
  pub lead_in : (i : ℕ) → i < length hits → target_block (slice_index hits i) k ≡ Some b
  pub all : (s : ℕ) → s < n → has sources s ≡ true → target_block s k ≡ Some b → has hits s ≡ true
