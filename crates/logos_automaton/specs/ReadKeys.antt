-- The keys of byte strings, which bound the number of states of the automaton.
use Rattle.std.specs.Prelude.{◌≡◌, ℕ, ◌<◌, ◌↔◌, List, [], ◌∷◌, ◌++◌, length, Some, if◌then◌else◌, ◌==◌, slice_get, IfSome, IsSomeAnd, AllPairs}
use Rattle.std.specs.List.{list_any}
use Rattle.logos_hir.specs.Text.{IsBytes}
use Rattle.logos_hir.specs.Looks.{is_word}
use Rattle.logos_automaton.specs.Munch.{Rule, RuleMatches}
use Rattle.logos_positions.specs.Positions.{Position, Reads, has_look}

-- The kinds of bytes, as look-around assertions distinguish them.
pub data Kind : Type 0 where
  unseen : Kind
  word : Kind
  cr : Kind
  lf : Kind
  other : Kind

-- The kind of a byte, as look-around assertions distinguish it.
abbrev pub kind_of : ℕ → Kind
kind_of b = if is_word (Some b) then word else if b == 13 then cr else if b == 10 then lf else other

-- A byte string that the automaton has read: nothing, some bytes and a last one, or some bytes and
-- the end.
pub data Read : Type 0 where
  nothing : Read
  upto : List ℕ → ℕ → Read
  whole : List ℕ → Read

module _ (rules : List Rule) where
  abbrev pub seen_kind : ℕ → Kind
  seen_kind b = if list_any (λ rule. has_look rule.tree) rules then kind_of b else unseen

  -- The position of the rule can have read the last byte.
  abbrev pub HasRead : ℕ → Position → List ℕ → ℕ → Type 0
  HasRead leaf position before last =
      IsSomeAnd (slice_get rules leaf) (λ rule. Reads rule.tree (before ++ last ∷ []) 0 position (length before))

  -- Two byte strings have the same key.
  pub record SameAfter (u : List ℕ) (b : ℕ) (v : List ℕ) (c : ℕ) : Type 0 where
    pub positions : (leaf : ℕ) (position : Position) → HasRead leaf position u b ↔ HasRead leaf position v c
    pub kind : seen_kind b ≡ seen_kind c
    pub leaves : (leaf : ℕ) → RuleMatches rules leaf (u ++ b ∷ []) 0 (length u) ↔ RuleMatches rules leaf (v ++ c ∷ []) 0 (length v)

  abbrev pub SameKey : Read → Read → Type 0
  SameKey nothing nothing = Unit {0}
  SameKey (upto u b) (upto v c) = SameAfter u b v c
  SameKey (whole u) (whole v) = (leaf : ℕ) → RuleMatches rules leaf u 0 (length u) ↔ RuleMatches rules leaf v 0 (length v)
  SameKey nothing (upto v c) = ⊥
  SameKey nothing (whole v) = ⊥
  SameKey (upto u b) nothing = ⊥
  SameKey (upto u b) (whole v) = ⊥
  SameKey (whole u) nothing = ⊥
  SameKey (whole u) (upto v c) = ⊥

  abbrev pub IsRead : Read → Type 0
  IsRead nothing = Unit {0}
  IsRead (upto u b) = IsBytes (u ++ b ∷ [])
  IsRead (whole u) = IsBytes u

  -- There are more keys than the limit.
  pub record HasMoreKeys (limit : ℕ) : Type 0 where
    pub strings : List Read
    pub many : limit < length strings
    pub are_bytes : (i : ℕ) → IfSome (slice_get strings i) IsRead
    pub different : AllPairs (λ x y. ¬ SameKey x y) strings
