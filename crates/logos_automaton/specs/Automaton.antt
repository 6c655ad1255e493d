-- The views of an automaton in contracts.
use Rattle.std.specs.Prelude.{◌≡◌, ℕ, ◌<◌, ◌≤◌, ◌↔◌, ◌⊎◌, List, [], ◌∷◌, ◌++◌, length, Option, None, Some, Contains, slice_get, option_and_then}
use Rattle.std.specs.List.Sorted.{IsStrictlyIncreasing}
use Rattle.logos_hir.specs.Text.{IsBytes}
use Rattle.logos_automaton.specs.Munch.{Rule, RuleMatches}

-- An automaton: for each state its targets for bytes, its target for the end, and the leaves that
-- it lists.
pub record Automaton : Type 0 where
  pub start : ℕ
  pub by_byte : List (List ℕ)
  pub at_end : List ℕ
  pub matches : List (List ℕ)

module _ (dfa : Automaton) where
  abbrev pub dfa_next : Option ℕ → ℕ → Option ℕ
  dfa_next s b = option_and_then (λ t. option_and_then (λ row. slice_get row b) (slice_get dfa.by_byte t)) s

  -- The state after the bytes.
  abbrev pub dfa_after : Option ℕ → List ℕ → Option ℕ
  dfa_after s [] = s
  dfa_after s (b ∷ bytes) = dfa_after (dfa_next s b) bytes

  abbrev pub dfa_at_end : List ℕ → Option ℕ
  dfa_at_end bytes = option_and_then (slice_get dfa.at_end) (dfa_after (Some dfa.start) bytes)

  -- The state lists exactly these leaves, in ascending order.
  pub record Lists (s : Option ℕ) (IsListed : ℕ → Type 0) : Type 0 where
    pub leaves : List ℕ
    pub listed : option_and_then (slice_get dfa.matches) s ≡ Some leaves
    pub ascending : IsStrictlyIncreasing leaves
    pub exactly : (leaf : ℕ) → Contains leaves leaf ↔ IsListed leaf

-- After some bytes and one more, the automaton lists the leaves that match all of the bytes before
-- the last one. After some bytes and the end, it lists the leaves that match all of the bytes.
pub record ReadsOneByteLate (rules : List Rule) (dfa : Automaton) : Type 0 where
  pub by_byte : (bytes : List ℕ) (b : ℕ) → IsBytes (bytes ++ b ∷ []) →
      Lists dfa (dfa_after dfa (Some dfa.start) (bytes ++ b ∷ [])) (λ leaf. RuleMatches rules leaf (bytes ++ b ∷ []) 0 (length bytes))
  pub at_end : (bytes : List ℕ) → IsBytes bytes →
      Lists dfa (dfa_at_end dfa bytes) (λ leaf. RuleMatches rules leaf bytes 0 (length bytes))

-- Each state has a target for each byte and for the end, and is reached by some bytes, or by some
-- bytes and the end. The start lists nothing. The end leads to the dead state, which lists nothing
-- and leads only to itself.
pub record IsTotal (dfa : Automaton) : Type 0 where
  pub start_lists : slice_get dfa.matches dfa.start ≡ Some []
  pub rows : length dfa.by_byte ≡ length dfa.matches
  pub ends : length dfa.at_end ≡ length dfa.matches
  pub next : (s b : ℕ) → s < length dfa.matches → b < 256 → (t : ℕ) × (dfa_next dfa (Some s) b ≡ Some t) × (t < length dfa.matches)
  pub no_next : (s b : ℕ) → 256 ≤ b → dfa_next dfa (Some s) b ≡ None
  pub at_end : (s : ℕ) → s < length dfa.matches → (t : ℕ) × (slice_get dfa.at_end s ≡ Some t) × (t < length dfa.matches)
  pub reached : (s : ℕ) → s < length dfa.matches →
      (bytes : List ℕ) × IsBytes bytes × ((dfa_after dfa (Some dfa.start) bytes ≡ Some s) ⊎ (dfa_at_end dfa bytes ≡ Some s))
  pub dead : ℕ
  pub dead_lists : slice_get dfa.matches dead ≡ Some []
  pub dead_next : (b : ℕ) → b < 256 → dfa_next dfa (Some dead) b ≡ Some dead
  pub dead_end : slice_get dfa.at_end dead ≡ Some dead
  pub after_end : (s t b : ℕ) → slice_get dfa.at_end s ≡ Some t → b < 256 → dfa_next dfa (Some t) b ≡ Some dead
  pub end_after_end : (s t : ℕ) → slice_get dfa.at_end s ≡ Some t → slice_get dfa.at_end t ≡ Some dead
