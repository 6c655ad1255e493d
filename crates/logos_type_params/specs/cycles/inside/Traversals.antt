-- The nodes that a traversal has found.
use Rattle.std.specs.Prelude.{◌≡◌, ◌<◌, ◌+◌, ◌⊎◌, ℕ, List, Bool, true, false, not, Contains, length, slice_index_or}
use Rattle.std.specs.List.{count_by}

-- Whether the node is found.
abbrev pub IsFound : List Bool → ℕ → Type 0
IsFound found node = slice_index_or found node false ≡ true

-- The number of nodes that are not found plus the number of nodes that are waiting.
abbrev pub left_in : List Bool → List ℕ → ℕ
left_in found waiting = count_by not found + length waiting

-- Each of the targets that is a node is found afterwards, and no other node is added. The added
-- nodes are waiting.
pub record Reaches (targets : List ℕ) (found : List Bool) (waiting : List ℕ)
    (found' : List Bool) (waiting' : List ℕ) : Type 0 where
  pub same_length : length found' ≡ length found
  pub stay : (node : ℕ) → IsFound found node → IsFound found' node
  pub all : (node : ℕ) → Contains targets node → node < length found → IsFound found' node
  pub only : (node : ℕ) → IsFound found' node → IsFound found node ⊎ Contains targets node
  pub wait : (node : ℕ) → IsFound found' node → IsFound found node ⊎ Contains waiting' node
  pub waited : (node : ℕ) → Contains waiting node → Contains waiting' node
  pub awaited : (node : ℕ) → Contains waiting' node → Contains waiting node ⊎ IsFound found' node
  pub left : left_in found' waiting' ≡ left_in found waiting
