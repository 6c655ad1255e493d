-- The states of a table that have a mark or lead to one.
use Rattle.std.specs.Prelude.{◌≡◌, ◌⊎◌, ℕ, None, Some}
use Rattle.logos_reduce.specs.Edges.{IsMarked, Leads}
use Rattle.logos_reduce.specs.Table.{to, mark, type_of, edges}
use Rattle.logos_reduce.specs.declared.table.Table.{Table}

-- The state has a mark or leads to one.
abbrev pub IsOfUse : Table → ℕ → Type 0
IsOfUse table s = IsMarked (type_of (mark table s)) ⊎ Leads (edges table) s

-- The new table has the marks of the old one, and exactly those of its edges that lead to states
-- that have a mark or lead to one.
pub record IsPrunedTable (old new : Table) : Type 0 where
  pub marks : new.marks ≡ old.marks
  pub some : (s k t : ℕ) → to old s k ≡ Some t →
      ((to new s k ≡ Some t) × IsOfUse old t) ⊎ ((to new s k ≡ None) × (IsOfUse old t → ⊥))
  pub none : (s k : ℕ) → to old s k ≡ None → to new s k ≡ None
