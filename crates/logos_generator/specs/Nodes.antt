-- The nodes that a generator makes from a graph's state, given the byte sets that it tests by bits.
use Rattle.std.specs.Prelude.{◌≡◌, ℕ, ◌<◌, ◌≤◌, Bool, false, not, ◌&&◌, ◌==◌, List, [], ◌∷◌, ◌++◌, length, sum_by, Option, Some, None, option_map, MatchBool, MatchOption, IsSomeAnd, if◌then◌else◌, find, slice_get, slice_index_or}
use Rattle.std.specs.Option.{option_map_or, option_or}
use Rattle.logos_graph.specs.Graph.{GraphState}
use Rattle.logos_hir.specs.ByteRanges.{is_in}
use Rattle.logos_graph.specs.FinishedGraph.{Edge}
use Rattle.logos_byte_class.specs.Bytes.{Comparison, operations, joined, some_compares}
use Rattle.logos_code.specs.Code.{CodeState, Condition, by_comparisons, by_test, Fork, by_conditions, by_table}
use Rattle.logos_generator.specs.Makes.{mark_made}

-- The edge has this byte and does not lead to `s`.
abbrev pub is_other : ℕ → ℕ → Edge → Bool
is_other s b e = not (e.1 == s) && is_in e.0 b

-- The target of a byte, without the edges to `s`.
abbrev pub leads_beside : ℕ → List Edge → ℕ → Option ℕ
leads_beside s edges b = option_map (λ e. e.1) (find (is_other s b) edges)

-- An entry after the target was written, if the byte is in the class and the entry led nowhere
-- before.
abbrev pub hit : Bool → ℕ → Option ℕ → Option ℕ
hit b target entry = option_or entry (if b then Some target else None)

-- The old list is a prefix of the new one.
abbrev pub Extends : {A : Type 0} → List A → List A → Type 0
Extends {A} old new = (more : List A) × (new ≡ old ++ more)

-- The set contains the bytes of the ranges.
pub record IsSetOf (ranges : List (ℕ × ℕ)) (set : List Bool) : Type 0 where
  pub members : (b : ℕ) → b < 256 → slice_index_or set b false ≡ is_in ranges b

-- The state whose edge a fork omits: the state itself, or a number that no state has.
abbrev pub left_out : Bool → ℕ → ℕ
left_out ignore_self s = if ignore_self then s else 4294967295

-- The number of operations that test a byte.
abbrev pub cost : List Comparison → ℕ
cost all = sum_by operations all

-- Byte sets, each at the number of its test.
module _ (tests : List (List Bool)) where
  -- The result of the test with this number for a byte.
  abbrev pub tests_byte : ℕ → ℕ → Bool
  tests_byte k b = option_map_or (λ set. slice_index_or set b false) (slice_get tests k) false

  -- The test with this number is for the bytes of the ranges.
  abbrev pub IsTest : List (ℕ × ℕ) → ℕ → Type 0
  IsTest ranges k = IsSomeAnd (slice_get tests k) (IsSetOf ranges)

  -- The condition of an edge with these ranges: comparisons, or a bit if the comparisons cost more
  -- than two operations.
  abbrev pub IsConditionOf : List (ℕ × ℕ) → Condition → Type 0
  IsConditionOf ranges (by_comparisons all) = (all ≡ joined ranges) × (cost all ≤ 2) × ((b : ℕ) → b < 256 → some_compares all b ≡ is_in ranges b)
  IsConditionOf ranges (by_test k) = (2 < cost (joined ranges)) × IsTest ranges k

  -- The branch of an edge: the condition of its ranges, and its target.
  pub record IsBranchOf (edge : Edge) (branch : Condition × ℕ) : Type 0 where
    pub condition : IsConditionOf edge.0 branch.0
    pub target : branch.1 ≡ edge.1

  -- One branch for each edge that does not lead to `s`, in the order of the edges.
  abbrev pub AreBranchesOf : ℕ → List Edge → List (Condition × ℕ) → Type 0
  AreBranchesOf s [] branches = branches ≡ []
  AreBranchesOf s (edge ∷ edges) branches = MatchBool (edge.1 == s)
      (AreBranchesOf s edges branches)
      ((branch : Condition × ℕ) × (rest : List (Condition × ℕ)) × (branches ≡ branch ∷ rest) × IsBranchOf edge branch × AreBranchesOf s edges rest)

  -- The fork of these edges: a table if there are more than two edges, and conditions otherwise.
  abbrev pub IsForkOf : ℕ → List Edge → Fork → Type 0
  IsForkOf s edges (by_conditions branches) = (length edges ≤ 2) × AreBranchesOf s edges branches
  IsForkOf s edges (by_table entries) = (2 < length edges) × (length entries ≡ 256) × ((b : ℕ) → b < 256 → slice_index_or entries b None ≡ leads_beside s edges b)

  -- The test of the edge to `s`, if there is one.
  abbrev pub IsLoopOf : ℕ → List Edge → Option ℕ → Type 0
  IsLoopOf s edges loop = MatchOption (find (λ e. e.1 == s) edges) (loop ≡ None) (λ edge. IsSomeAnd loop (IsTest edge.0))

  -- State `s` of a graph, as a state of the code.
  pub record IsStateOf (s : ℕ) (state : GraphState) (made : CodeState) : Type 0 where
    pub fast_loop : IsLoopOf s state.normal made.fast_loop
    pub mark : made.mark ≡ mark_made state.state_type
    pub fork : IsForkOf s state.normal made.fork
    pub at_end : made.at_end ≡ state.eoi
