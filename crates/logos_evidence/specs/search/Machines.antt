-- Machines that read bytes: points, and the steps by bytes from them.
use Rattle.std.specs.Prelude.{◌≡◌, ℕ, ◌<◌, Bool, true, List, [], ◌∷◌, Option, Some, All, IsTrue, IsUtf8, option_and_then}
use Rattle.logos_evidence.specs.declared.search.point.Point.{Point}

-- An input of a mode: bytes, which are UTF-8 in UTF-8 mode.
abbrev pub IsInput : Bool → List ℕ → Type 0
IsInput utf8 bytes = All (λ b. b < 256) bytes × (IsTrue utf8 → IsUtf8 bytes)

-- The point to which bytes lead.
abbrev pub after : {P : Type 0} → (P → ℕ → Option P) → P → List ℕ → Option P
after next p [] = Some p
after next p (b ∷ bytes) = option_and_then (λ q. after next q bytes) (next p b)

-- An input leads from a point to a goal.
pub record Leads (next : Point → ℕ → Option Point) (is_goal : Point → Bool) (utf8 : Bool) (start : Point) (bytes : List ℕ) : Type 0 where
  pub input : IsInput utf8 bytes
  pub end : Point
  pub way : after next start bytes ≡ Some end
  pub goal : is_goal end ≡ true
