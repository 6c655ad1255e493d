-- Classes of states with equal marks and equal rows.
use Rattle.std.specs.Prelude.{◌≡◌, ◌<◌, ◌≤◌, ℕ, List, ◌∷◌, Some, length, slice_get, slice_index}
use Rattle.logos_reduce.specs.Merge.{target_block}
use Rattle.logos_reduce.specs.Table.{size, to, mark}
use Rattle.logos_reduce.specs.inside.Merge.{key_of}
use Rattle.logos_reduce.specs.declared.table.Table.{Table}

-- The index of the row of a state, and its mark, as a key.
abbrev pub class_key : Table → ℕ → List ℕ
class_key table s = slice_index table.rows.slots.items s ∷ key_of (mark table s)

-- The classes of the first `n` states are the numbers of their keys.
pub record AreKeyed (table : Table) (n : ℕ) (of : List ℕ) (keys : List (List ℕ)) : Type 0 where
  pub keyed : (s : ℕ) → s < n → slice_get keys (slice_index of s) ≡ Some (class_key table s)
  pub few : length keys ≤ n

-- States of a class have equal marks, and lead to the same states.
pub record AreClasses (table : Table) (class : ℕ → ℕ) : Type 0 where
  pub marks : (s t : ℕ) → s < size table → t < size table → class s ≡ class t →
      mark table s ≡ mark table t
  pub edges : (s t k : ℕ) → s < size table → t < size table → class s ≡ class t →
      to table s k ≡ to table t k

-- Each class has the mark of its states, and leads to the classes to which they lead.
pub record IsClassTable (table : Table) (class : ℕ → ℕ) (small : Table) : Type 0 where
  pub marks : (s : ℕ) → s < size table → mark small (class s) ≡ mark table s
  pub edges : (s k : ℕ) → s < size table → to small (class s) k ≡ target_block table class s k
