-- Numbering blocks by first visit.
use Rattle.std.specs.Prelude.{◌≡◌, ◌<◌, ◌⊎◌, ℕ, List, Option, Some, option_and_then, length, slice_index}
use Rattle.logos_reduce.specs.Merge.{target_block}
use Rattle.logos_reduce.specs.Order.{IsOrder, IsMet}
use Rattle.logos_reduce.specs.Rows.{target_of}
use Rattle.logos_reduce.specs.Table.{size, to, mark}
use Rattle.logos_reduce.specs.declared.table.Table.{Table}

-- Symbol `l` at index `r` comes before symbol `k` at index `i`: the indexes are compared first,
-- then the symbols.
abbrev pub ComesBefore : ℕ → ℕ → ℕ → ℕ → Type 0
ComesBefore r l i k = (r < i) ⊎ ((r ≡ i) × (l < k))

module _ (edge : ℕ → ℕ → Option ℕ) where
  -- The first edge into the block at index `j` is on the symbol `l` from the block at index `r`,
  -- which is lower.
  pub record IsFirstInto (states : List ℕ) (j r l : ℕ) : Type 0 where
    pub lower : r < j
    pub enters : edge (slice_index states r) l ≡ Some (slice_index states j)
    pub none : (s k : ℕ) → ComesBefore s k r l →
        edge (slice_index states s) k ≡ Some (slice_index states j) → ⊥

  -- All blocks to which edges before symbol `k` at index `i` lead are in the order, each in its
  -- turn.
  pub record IsInTurn (numbers states : List ℕ) (i k : ℕ) : Type 0 where
    pub met : (r l b : ℕ) → r < length states → ComesBefore r l i k →
        edge (slice_index states r) l ≡ Some b → IsMet numbers b
    pub slot : ℕ → ℕ
    pub symbol : ℕ → ℕ
    pub first : (j : ℕ) → 0 < j → j < length states → IsFirstInto states j (slot j) (symbol j)
    pub passed : (j : ℕ) → 0 < j → j < length states → ComesBefore (slot j) (symbol j) i k
    pub rises : (j h : ℕ) → 0 < j → j < h → h < length states →
        ComesBefore (slot j) (symbol j) (slot h) (symbol h)

-- Each block is the block of a state.
abbrev pub AreUsed : ℕ → (ℕ → ℕ) → List ℕ → Type 0
AreUsed n block states = (i : ℕ) → i < length states →
    (s : ℕ) × (s < n) × (block s ≡ slice_index states i)

-- The new table has the blocks of the old one in the order of first visits, from the block of the
-- root.
pub record IsNumbered (old : Table) (block leader : ℕ → ℕ) (root : ℕ)
    (states : List ℕ) (new : Table) : Type 0 where
  pub numbers : List ℕ
  pub order : IsOrder numbers states
  pub in_turn : IsInTurn (λ b k. target_block old block (leader b) k) numbers states
      (length states) 0
  pub used : AreUsed (size old) block states
  pub some : 0 < length states
  pub start : slice_index states 0 ≡ block root
  pub states_of : size new ≡ length states
  pub marks : (i : ℕ) → i < length states → mark new i ≡ mark old (leader (slice_index states i))
  pub edges : (i k : ℕ) → i < length states →
      to new i k ≡ option_and_then (λ b. target_of (slice_index numbers b))
      (target_block old block (leader (slice_index states i)) k)
