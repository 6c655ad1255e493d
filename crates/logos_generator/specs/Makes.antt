-- The parts of a code value for each state of a graph.
use Rattle.std.specs.Prelude.{◌≡◌, ℕ, ◌<◌, Bool, true, false, List, Option, Some, None, option_map, if◌then◌else◌, slice_get, find}
use Rattle.logos_code.specs.Code.{CodeValue, CodeState, Mark}
use Rattle.logos_code.specs.Runs.{stays, target}
use Rattle.logos_reduce.specs.Edges.{StateType}
use Rattle.logos_graph.specs.Graph.{GraphState}
use Rattle.logos_hir.specs.ByteRanges.{is_in}

-- The mark of a state, given its early and its late leaf. The early one takes precedence.
abbrev pub mark_by : Option ℕ → Option ℕ → Option Mark
mark_by (Some leaf) accept = Some (record { leaf = leaf; late = false })
mark_by None (Some leaf) = Some (record { leaf = leaf; late = true })
mark_by None None = None

-- The mark of a state of this type.
abbrev pub mark_made : StateType → Option Mark
mark_made type = mark_by type.early type.accept

-- The target of a byte in the graph.
abbrev pub led_by : GraphState → ℕ → Option ℕ
led_by state b = option_map (λ edge. edge.1) (find (λ edge. is_in edge.0 b) state.normal)

-- The target of a byte in the code, including the fast loop of state `s`.
abbrev pub leads : CodeValue → ℕ → CodeState → ℕ → Option ℕ
leads code s made b = if stays code made.fast_loop b then Some s else target code made.fork b

-- This state of the code is made from state `s` of the graph.
pub record Makes (code : CodeValue) (s : ℕ) (state : GraphState) (made : CodeState) : Type 0 where
  pub mark : made.mark ≡ mark_made state.state_type
  pub bytes : (b : ℕ) → b < 256 → leads code s made b ≡ led_by state b
  pub end : made.at_end ≡ state.eoi

-- The end leads to a state with a late mark and without an edge on the end.
pub record IsLast (graph : List GraphState) (t : ℕ) : Type 0 where
  pub state : GraphState
  pub is : slice_get graph t ≡ Some state
  pub leaf : ℕ
  pub late : mark_made state.state_type ≡ Some (record { leaf = leaf; late = true })
  pub no_end : state.eoi ≡ None

-- The graph is closed: each state to which an edge leads exists.
pub record IsClosed (graph : List GraphState) (state : GraphState) : Type 0 where
  pub bytes : (b t : ℕ) → b < 256 → led_by state b ≡ Some t → (next : GraphState) × (slice_get graph t ≡ Some next)
  pub end : (t : ℕ) → state.eoi ≡ Some t → IsLast graph t

-- The code is made from the graph, state by state.
pub record IsMade (graph : List GraphState) (utf8 : Bool) (code : CodeValue) : Type 0 where
  pub root : code.root ≡ 0
  pub mode : code.utf8 ≡ utf8
  pub states : (s : ℕ) (state : GraphState) → slice_get graph s ≡ Some state → (made : CodeState) × (slice_get code.states s ≡ Some made) × Makes code s state made
  pub closed : (s : ℕ) (state : GraphState) → slice_get graph s ≡ Some state → IsClosed graph state
  pub first : GraphState
  pub has_first : slice_get graph 0 ≡ Some first
  pub unmarked : mark_made first.state_type ≡ None
