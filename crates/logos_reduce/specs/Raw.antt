-- A table before it is reduced.
use Rattle.std.specs.Prelude.{◌≡◌, ◌<◌, ◌⊎◌, ℕ, List, Some, None}
use Rattle.std.specs.List.{All}
use Rattle.logos_reduce.specs.Edges.{reach, Leads}
use Rattle.logos_reduce.specs.Table.{size, to, mark, edges}
use Rattle.logos_reduce.specs.declared.table.Table.{Table}

-- Some bytes, or some bytes and the end, lead from the root to the state.
abbrev pub IsReached : Table → ℕ → ℕ → Type 0
IsReached table root s =
    (bytes : List ℕ) × All (λ b. b < 256) bytes
    × ((reach (edges table) root bytes ≡ Some s)
    ⊎ ((t : ℕ) × (reach (edges table) root bytes ≡ Some t) × (to table t 256 ≡ Some s)))

-- A table with only late marks: each state can be reached, the root has no mark, and there is no
-- mark after the end.
pub record IsRaw (table : Table) (root : ℕ) : Type 0 where
  pub root_in : root < size table
  pub late_only : (s : ℕ) → (mark table s).early ≡ None
  pub root_mark : (mark table root).accept ≡ None
  pub ends : (s t : ℕ) → to table s 256 ≡ Some t → Leads (edges table) t → ⊥
  pub reached : (s : ℕ) → s < size table → IsReached table root s
