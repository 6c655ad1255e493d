-- Paths in a directed graph.
use Rattle.std.specs.Prelude.{ℕ, List, [], Contains, slice_index_or}

-- The nodes to which the edges of a node lead. There are none if there is no such node.
abbrev pub targets_of : List (List ℕ) → ℕ → List ℕ
targets_of lists from = slice_index_or lists from []

-- A path of one edge or more leads from the first node to the second one.
pub data Leads (lists : List (List ℕ)) : ℕ → ℕ → Type 0 where
  one : {from to : ℕ} → Contains (targets_of lists from) to → Leads lists from to
  on : {from over to : ℕ} → Contains (targets_of lists from) over → Leads lists over to →
      Leads lists from to
