-- Paths along the edges of a graph: the last mark on a path, and the length of a path.
use Rattle.std.specs.Prelude.{◌≡◌, ℕ, ◌+◌, ◌<◌, ◌≤◌, Bool, List, [], ◌∷◌, ◌++◌, length, drop, Option, Some, None, option_and_then, IsTrue, IsCharBoundary, MatchOption, slice_get}
use Rattle.std.specs.Option.{option_map_or}
use Rattle.logos_hir.specs.Text.{IsBytes}
use Rattle.logos_automaton.specs.Munch.{Rule, RuleMatches, IsFirst, Found, ended, matched, failed}
use Rattle.logos_graph.specs.Graph.{GraphState, next_by, next_at_end}
use Rattle.logos_graph.specs.inside.First.{first_of}
use Rattle.logos_automaton.specs.Automaton.{Automaton, dfa_next}
use Rattle.logos_reduce.specs.Edges.{StateType, Edges, reach, Leads}

-- The mark after a state is entered by one step from the point `at`: a leaf and the end of its
-- match. A state without a mark does not change the mark before it.
abbrev pub marked : StateType → ℕ → Option (ℕ × ℕ) → Option (ℕ × ℕ)
marked type at last = go type.early type.accept
  where
    go : Option ℕ → Option ℕ → Option (ℕ × ℕ)
    go (Some leaf) accept = Some (leaf, at + 1)
    go None (Some leaf) = Some (leaf, at)
    go None None = last

module _ {S : Type 0} (g : Edges S) where
  -- The last mark on the path along the rest and the end, from a state at a point.
  abbrev pub last_mark : S → List ℕ → ℕ → Option (ℕ × ℕ) → Option (ℕ × ℕ)
  last_mark s [] at last = option_map_or (λ t. marked (g.type_of t) at last) (g.at_end s) last
  last_mark s (b ∷ rest) at last = option_map_or (λ t. last_mark t rest (at + 1) (marked (g.type_of t) at last)) (g.next s b) last

  -- The number of bytes of the rest that can be followed.
  abbrev pub followed : S → List ℕ → ℕ
  followed s [] = 0
  followed s (b ∷ rest) = option_map_or (λ t. followed t rest + 1) (g.next s b) 0

  -- No prefix of the rest that can be followed reaches beyond the point.
  abbrev pub Covers : S → List ℕ → ℕ → ℕ → Type 0
  Covers s [] at to = Unit {0}
  Covers s (b ∷ rest) at to = (t : S) → g.next s b ≡ Some t → Leads g t → (at + 1 ≤ to) × Covers t rest (at + 1) to

module _ {S : Type 0} (g : Edges S) (root : S) (utf8 : Bool) (bytes : List ℕ) (from : ℕ) where
  -- An error may end here: after at least one byte, after all bytes that can be followed, and in
  -- UTF-8 mode between characters.
  pub record MayEnd (to : ℕ) : Type 0 where
    pub nonempty : from < to
    pub covers : from + followed g root (drop from bytes) ≤ to
    pub boundary : IsTrue utf8 → IsCharBoundary bytes to

  -- There is no mark on the path, and the error ends at the first point at which it may end.
  pub record IsUnmarked (to : ℕ) : Type 0 where
    pub starts : from < length bytes
    pub unmarked : last_mark g root (drop from bytes) from None ≡ None
    pub may_end : MayEnd to
    pub least : (other : ℕ) → MayEnd other → to ≤ other

  abbrev pub WalkFinds : Found → Type 0
  WalkFinds ended = length bytes ≤ from
  WalkFinds (matched leaf to) = (from < length bytes) × (last_mark g root (drop from bytes) from None ≡ Some (leaf, to))
  WalkFinds (failed to) = IsUnmarked to

module _ (rules : List Rule) where
  -- No rule matches the span.
  abbrev pub NoneMatches : List ℕ → ℕ → ℕ → Type 0
  NoneMatches bytes from to = (leaf : ℕ) → RuleMatches rules leaf bytes from to → ⊥

  -- Only a late mark, of the rule with the highest priority among those that match the span, if
  -- there is one.
  pub record IsLateMark (type : StateType) (bytes : List ℕ) (from to : ℕ) : Type 0 where
    pub late : type.early ≡ None
    pub first : MatchOption type.accept (NoneMatches bytes from to) (IsFirst rules bytes from to)

  -- After some bytes and one more, and after some bytes and the end, there is the mark of all of
  -- the bytes.
  pub record MarksOneByteLate {S : Type 0} (g : Edges S) (root : S) : Type 0 where
    pub by_byte : (bytes : List ℕ) (b : ℕ) → IsBytes (bytes ++ b ∷ []) →
        (t : S) × (reach g root (bytes ++ b ∷ []) ≡ Some t) × IsLateMark (g.type_of t) (bytes ++ b ∷ []) 0 (length bytes)
    pub at_end : (bytes : List ℕ) → IsBytes bytes →
        (s t : S) × (reach g root bytes ≡ Some s) × (g.at_end s ≡ Some t) × IsLateMark (g.type_of t) bytes 0 (length bytes)

-- A finished graph, as its edges.
abbrev pub edges_of : List GraphState → Edges ℕ
edges_of graph = record {
  type_of = λ s. option_map_or (λ state. state.state_type) (slice_get graph s) (record { accept = None; early = None });
  next = next_by graph;
  at_end = next_at_end graph;
}

-- The result of a finished graph at a point.
abbrev pub GraphFindsByWalk : List GraphState → Bool → List ℕ → ℕ → Found → Type 0
GraphFindsByWalk graph utf8 bytes from = WalkFinds (edges_of graph) 0 utf8 bytes from

-- An automaton, as a graph with only late marks.
abbrev pub edges_of_automaton : List Rule → Automaton → Edges ℕ
edges_of_automaton rules dfa = record {
  type_of = λ s. record { accept = option_and_then (first_of rules) (slice_get dfa.matches s); early = None };
  next = λ s b. dfa_next dfa (Some s) b;
  at_end = slice_get dfa.at_end;
}
