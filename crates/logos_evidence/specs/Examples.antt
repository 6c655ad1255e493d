-- Examples of a leaf's matches.
use Rattle.std.specs.Prelude.{ℕ, ◌≤◌, Bool, List, length, IsTrue, IsCharBoundary}
use Rattle.logos_automaton.specs.Munch.{Rule, IsInput, Finds, matched}

-- An input on which maximal munch finds a match of the leaf first.
pub record IsExample (rules : List Rule) (utf8 : Bool) (leaf : ℕ) (bytes : List ℕ) : Type 0 where
  pub input : IsInput utf8 bytes
  pub to : ℕ
  pub found : Finds rules utf8 bytes 0 (matched leaf to)

-- A shortest input on which maximal munch finds a match of the leaf first.
pub record IsShortestExample (rules : List Rule) (utf8 : Bool) (leaf : ℕ) (bytes : List ℕ) : Type 0 where
  pub example : IsExample rules utf8 leaf bytes
  pub least : (other : List ℕ) → IsExample rules utf8 leaf other → length bytes ≤ length other

-- Maximal munch finds no match of the leaf: in UTF-8 mode from no boundary between characters,
-- otherwise from no offset of any input.
abbrev pub HasNoExample : List Rule → Bool → ℕ → Type 0
HasNoExample rules utf8 leaf = (bytes : List ℕ) (from to : ℕ) → IsInput utf8 bytes → (IsTrue utf8 → IsCharBoundary bytes from) →
    ¬ Finds rules utf8 bytes from (matched leaf to)
