-- Two lexers that find equal matches and errors, and inputs on which they do not.
use Rattle.std.specs.Prelude.{◌≡◌, ℕ, ◌≤◌, Bool, List, length, IsTrue, IsCharBoundary, slice_get}
use Rattle.logos_automaton.specs.Munch.{Rule, IsInput, Found, ended, matched, failed, Finds}

-- The two results are equal: both are the end, errors up to the same offset, or matches up to the
-- same offset by leaves of the same name.
abbrev pub Agree : List ℕ → Found → List ℕ → Found → Type 0
Agree names ended others ended = Unit {0}
Agree names ended others (matched other end) = ⊥
Agree names ended others (failed end) = ⊥
Agree names (matched leaf to) others ended = ⊥
Agree names (matched leaf to) others (matched other end) = (slice_get names leaf ≡ slice_get others other) × (to ≡ end)
Agree names (matched leaf to) others (failed end) = ⊥
Agree names (failed to) others ended = ⊥
Agree names (failed to) others (matched other end) = ⊥
Agree names (failed to) others (failed end) = to ≡ end

module _ (rules : List Rule) (names : List ℕ) (other_rules : List Rule) (others : List ℕ) (utf8 : Bool) where
  -- From each offset of each input, in UTF-8 mode from each boundary between characters, the two
  -- results are equal.
  abbrev pub FindTheSame : Type 0
  FindTheSame = (bytes : List ℕ) (from : ℕ) (f g : Found) → IsInput utf8 bytes → (IsTrue utf8 → IsCharBoundary bytes from) →
      Finds rules utf8 bytes from f → Finds other_rules utf8 bytes from g → Agree names f others g

  -- An input at whose beginning the two results differ.
  pub record IsDifference (bytes : List ℕ) : Type 0 where
    pub input : IsInput utf8 bytes
    pub one : Found
    pub found : Finds rules utf8 bytes 0 one
    pub other : Found
    pub other_found : Finds other_rules utf8 bytes 0 other
    pub differ : ¬ Agree names one others other

  -- A shortest input at whose beginning the two results differ.
  pub record IsShortestDifference (bytes : List ℕ) : Type 0 where
    pub difference : IsDifference bytes
    pub least : (another : List ℕ) → IsDifference another → length bytes ≤ length another
