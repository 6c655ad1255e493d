-- A graph as its edges, and the states that lead to a mark.
use Rattle.std.specs.Prelude.{◌≡◌, ◌<◌, ◌⊎◌, ℕ, List, [], ◌∷◌, Option, Some, IsSome, option_and_then}

-- The type of a state: the leaves whose matches end at the state, or one byte before it.
pub record StateType : Type 0 where
  -- A match of this leaf ends one byte before the state.
  pub accept : Option ℕ
  -- A match of this leaf ends at the state.
  pub early : Option ℕ

-- The state has a mark.
abbrev pub IsMarked : StateType → Type 0
IsMarked type = IsSome type.early ⊎ IsSome type.accept

-- The states of a graph: their types, the target of each byte, and the target of the end.
pub record Edges (S : Type 0) : Type 0 where
  pub type_of : S → StateType
  pub next : S → ℕ → Option S
  pub at_end : S → Option S

module _ {S : Type 0} (g : Edges S) where
  -- The state to which the bytes lead.
  abbrev pub reach : S → List ℕ → Option S
  reach s [] = Some s
  reach s (b ∷ bytes) = option_and_then (λ t. reach t bytes) (g.next s b)

  -- The state leads to one with a mark, in one step or more.
  pub data Leads : S → Type 0 where
    to_mark : {s t : S} (b : ℕ) → b < 256 → g.next s b ≡ Some t → IsMarked (g.type_of t) → Leads s
    onward : {s t : S} (b : ℕ) → b < 256 → g.next s b ≡ Some t → Leads t → Leads s
    to_end : {s t : S} → g.at_end s ≡ Some t → IsMarked (g.type_of t) → Leads s
