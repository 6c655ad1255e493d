-- The properties of a graph that a generator requires.
use Rattle.std.specs.Prelude.{◌≡◌, ◌≢◌, ℕ, ◌<◌, true, List, length, Option, None, Some, IsSome, IfSome, IsSomeAnd, option_map, find, slice_get}
use Rattle.std.specs.List.{All, AllPairs}
use Rattle.logos_byte_class.specs.Bytes.{AreSeparated}
use Rattle.logos_graph.specs.Graph.{GraphState}
use Rattle.logos_hir.specs.ByteRanges.{is_in}
use Rattle.logos_reduce.specs.Edges.{StateType}
use Rattle.logos_reduce.specs.Table.{size, to, mark, type_of}
use Rattle.logos_reduce.specs.declared.table.Table.{Table}

-- The state type has only a late mark.
abbrev pub IsLate : StateType → Type 0
IsLate type = (type.early ≡ None) × IsSome type.accept

-- The state type has no mark.
abbrev pub IsUnmarked : StateType → Type 0
IsUnmarked type = (type.early ≡ None) × (type.accept ≡ None)

-- Each mark of the state type is a leaf below this number.
abbrev pub NamesLeaves : ℕ → StateType → Type 0
NamesLeaves leaves type = IfSome type.accept (λ leaf. leaf < leaves) × IfSome type.early (λ leaf. leaf < leaves)

-- The ranges of the bytes that lead to a state, and the state.
abbrev pub Edge : Type 0
Edge = List (ℕ × ℕ) × ℕ

-- The target of a byte, if an edge contains the byte.
abbrev pub edge_leads : List Edge → ℕ → Option ℕ
edge_leads edges b = option_map (λ e. e.1) (find (λ e. is_in e.0 b) edges)

-- The bytes of an edge lead to the target of the edge, and no two edges lead to the same state.
pub record AreNeat (edges : List Edge) : Type 0 where
  pub separated : All (λ edge. AreSeparated edge.0) edges
  pub leads : All (λ edge. (b : ℕ) → b < 256 → is_in edge.0 b ≡ true → edge_leads edges b ≡ Some edge.1) edges
  pub apart : AllPairs (λ edge other. edge.1 ≢ other.1) edges

-- A table from which code can be made. Its marks are leaves, a state to which the end leads has a
-- late mark and no edge on the end, and the first state has no mark, no edge on the end, and no
-- edge to a late mark.
pub record IsFit (table : Table) (leaves : ℕ) : Type 0 where
  pub some : 0 < size table
  pub marks : (s : ℕ) → s < size table → NamesLeaves leaves (type_of (mark table s))
  pub ends : (s t : ℕ) → to table s 256 ≡ Some t → IsLate (type_of (mark table t)) × (to table t 256 ≡ None)
  pub first : IsUnmarked (type_of (mark table 0))
  pub first_edges : (b t : ℕ) → b < 256 → to table 0 b ≡ Some t → ¬ IsLate (type_of (mark table t))
  pub first_end : to table 0 256 ≡ None

-- The properties that `IsFit` has for a table, for a finished graph.
module _ (graph : List GraphState) (leaves : ℕ) where
  pub record IsFinishedState (state : GraphState) : Type 0 where
    pub neat : AreNeat state.normal
    pub targets : All (λ edge. edge.1 < length graph) state.normal
    pub marks : NamesLeaves leaves state.state_type
    pub ends : (t : ℕ) → state.eoi ≡ Some t → IsSomeAnd (slice_get graph t) (λ last. IsLate last.state_type × (last.eoi ≡ None))

  pub record IsFirstState (state : GraphState) : Type 0 where
    pub unmarked : IsUnmarked state.state_type
    pub early : All (λ edge. ¬ IsSomeAnd (slice_get graph edge.1) (λ next. IsLate next.state_type)) state.normal
    pub no_end : state.eoi ≡ None

  pub record IsFinished : Type 0 where
    pub few : length graph < 4294967295
    pub states : All IsFinishedState graph
    pub first : IsSomeAnd (slice_get graph 0) IsFirstState
