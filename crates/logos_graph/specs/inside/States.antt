-- The states of a graph that represents a table, while they are made.
use Rattle.std.specs.Prelude.{◌≡◌, ◌≢◌, ℕ, ◌-◌, ◌<◌, ◌≤◌, true, List, [], ◌∷◌, ◌++◌, map, Option, Some, None, if◌then◌else◌, ◌==◌, nat_lt, Vec, slice_get, slice_index_or}
use Rattle.std.specs.List.{All}
use Rattle.std.specs.declared.alloc.Global.{Global}
use Rattle.logos_byte_class.specs.Bytes.{AreSeparated}
use Rattle.logos_graph.specs.FinishedGraph.{Edge, edge_leads}
use Rattle.logos_graph.specs.Graph.{GraphState}
use Rattle.logos_graph.specs.GraphView.{state_number}
use Rattle.logos_graph.specs.declared.graph.StateData.{StateData}
use Rattle.logos_hir.specs.ByteRanges.{is_in}
use Rattle.logos_positions.specs.Marks.{IsRising}
use Rattle.logos_reduce.specs.Table.{to, mark, type_of}
use Rattle.logos_reduce.specs.declared.table.Table.{Table}

-- The states to which edges lead.
abbrev pub targets : List Edge → List ℕ
targets edges = map (λ edge. edge.1) edges

-- Edges in ascending order, with one more range of bytes that lead to a state.
abbrev pub with_range : List Edge → ℕ × ℕ → ℕ → List Edge
with_range [] range t = (range ∷ [], t) ∷ []
with_range (edge ∷ edges) range t =
    if nat_lt t edge.1 then (range ∷ [], t) ∷ edge ∷ edges
    else (if t == edge.1 then (edge.0 ++ range ∷ [], edge.1) ∷ edges else edge ∷ with_range edges range t)

-- Edges in ascending order, with one more range of bytes if these lead to a state.
abbrev pub with_run : List Edge → ℕ × ℕ → Option ℕ → List Edge
with_run edges range None = edges
with_run edges range (Some t) = with_range edges range t

-- The edge has ranges of the first `n` bytes, which lead to its target, and a range that does not
-- touch them can be added.
pub record IsEdgeOf (leads : ℕ → Option ℕ) (n : ℕ) (edge : Edge) : Type 0 where
  pub separated : AreSeparated edge.0
  pub room : (first last : ℕ) → n ≤ first → first ≤ last → (n ≡ first → leads (n - 1) ≢ Some edge.1) → AreSeparated (edge.0 ++ (first, last) ∷ [])
  pub only : (b : ℕ) → is_in edge.0 b ≡ true → (b < n) × (leads b ≡ Some edge.1)
  pub some : (b : ℕ) × (b < n) × (leads b ≡ Some edge.1)

-- The edges on the first `n` bytes, in ascending order.
pub record AreEdgesOf (leads : ℕ → Option ℕ) (n : ℕ) (edges : List Edge) : Type 0 where
  pub rising : IsRising (targets edges)
  pub each : All (IsEdgeOf leads n) edges
  pub done : (b : ℕ) → b < n → edge_leads edges b ≡ leads b
  pub rest : (b : ℕ) → n ≤ b → edge_leads edges b ≡ None

-- The state represents state `s` of the table.
pub record IsStateOf (table : Table) (s : ℕ) (state : GraphState) : Type 0 where
  pub type : state.state_type ≡ type_of (mark table s)
  pub edges : AreEdgesOf (to table s) 256 state.normal
  pub end : state.eoi ≡ to table s 256

-- The graph has the states of the table, in order.
abbrev pub AreStatesOf : Table → List GraphState → Type 0
AreStatesOf table graph = (s : ℕ) (state : GraphState) → slice_get graph s ≡ Some state → IsStateOf table s state

-- The numbers in the lists.
abbrev pub numbers_of : List (Vec ℕ Global) → List (List ℕ)
numbers_of = map (λ v. v.items)

-- The states have, one by one, the numbers in the lists.
pub record HaveNumbers (lists : List (Vec ℕ Global)) (states : List StateData) : Type 0 where
  pub each : (s : ℕ) (state : StateData) → slice_get states s ≡ Some state → map state_number state.backward.items ≡ slice_index_or (numbers_of lists) s []
