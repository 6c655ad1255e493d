-- The result of a graph at a point of an input.
use Rattle.std.specs.Prelude.{◌≡◌, ℕ, ◌+◌, ◌-◌, ◌<◌, ◌≤◌, ◌↔◌, Bool, false, List, length, take, drop, Option, Some, None, option_and_then, IsSome, IsTrue, IsCharBoundary, nat_lt}
use Rattle.logos_automaton.specs.Munch.{Rule, IsInput, Found, ended, matched, failed, Finds}
use Rattle.logos_graph.specs.Graph.{GraphState, walk, type_after}
use Rattle.logos_reduce.specs.Edges.{StateType}

-- The leaf that a state type marks after `n` bytes, and the length of its match.
abbrev pub mark_of : StateType → ℕ → Option (ℕ × ℕ)
mark_of type n = go type.early type.accept
  where
    go : Option ℕ → Option ℕ → Option (ℕ × ℕ)
    go (Some leaf) accept = Some (leaf, n)
    go None (Some leaf) = Some (leaf, n - 1)
    go None None = None

module _ (graph : List GraphState) (utf8 : Bool) (bytes : List ℕ) (from : ℕ) where
  abbrev rest : List ℕ
  rest = drop from bytes

  -- The mark after the first `n` bytes of the rest. The length of the rest plus one represents all
  -- of the rest and the end.
  abbrev pub mark_after : ℕ → Option (ℕ × ℕ)
  mark_after n = option_and_then (λ type. mark_of type n) (type_after graph 0 (take n rest) (nat_lt (length rest) n))

  -- The last mark on the path.
  pub record IsLastMark (leaf to : ℕ) : Type 0 where
    pub at : ℕ
    pub in_rest : at ≤ length rest + 1
    pub size : ℕ
    pub mark : mark_after at ≡ Some (leaf, size)
    pub end : to ≡ from + size
    pub last : (n : ℕ) → at < n → n ≤ length rest + 1 → mark_after n ≡ None

  -- An error may end here: after at least one byte, after all bytes that can be followed, and in
  -- UTF-8 mode between characters.
  pub record CoversWalk (to : ℕ) : Type 0 where
    pub nonempty : from < to
    pub covers : (n : ℕ) → n ≤ length rest → IsSome (walk graph 0 (take n rest) false) → from + n ≤ to
    pub boundary : IsTrue utf8 → IsCharBoundary bytes to

  -- There is no mark on the path, and the error ends at the first point at which it may end.
  pub record IsUnmarked (to : ℕ) : Type 0 where
    pub starts : from < length bytes
    pub unmarked : (n : ℕ) → n ≤ length rest + 1 → mark_after n ≡ None
    pub covers : CoversWalk to
    pub least : (other : ℕ) → CoversWalk other → to ≤ other

  abbrev pub GraphFinds : Found → Type 0
  GraphFinds ended = length bytes ≤ from
  GraphFinds (matched leaf to) = (from < length bytes) × IsLastMark leaf to
  GraphFinds (failed to) = IsUnmarked to

-- At each point of each input the graph has the result of maximal munch.
abbrev pub FindsTheLongest : List Rule → Bool → List GraphState → Type 0
FindsTheLongest rules utf8 graph =
    (bytes : List ℕ) (from : ℕ) (found : Found) → IsInput utf8 bytes → GraphFinds graph utf8 bytes from found ↔ Finds rules utf8 bytes from found
