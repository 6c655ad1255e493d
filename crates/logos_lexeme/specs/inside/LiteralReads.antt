-- Invariants that hold while a literal is read.
use Rattle.std.specs.Prelude.{◌≡◌, ℕ, ◌+◌, ◌*◌, ◌^◌, ◌<◌, ◌≤◌, ◌⊎◌, List, [], ◌∷◌, length, slice_index, IsTrue, IsFalse}
use Rattle.std.specs.Char.{digit_value}
use Rattle.logos_lexeme.specs.LiteralBodies.{is_hex, hex_value, IsAllowed, IsReturn}
use Rattle.logos_lexeme.specs.declared.lexeme.openings.Content.{Content}

-- `count` digits were read, and they spell this value.
pub record HasRead (digits : List ℕ) (count value : ℕ) : Type 0 where
  pub counted : count ≡ length digits
  pub few : count ≤ 6
  pub valued : value ≡ hex_value digits
  pub small : value < 16 ^ count

-- One more byte, a digit or `_`, was read.
abbrev pub ReadsByte : (byte count value next_count next_value : ℕ) → Type 0
ReadsByte byte count value next_count next_value =
    (IsFalse (is_hex byte) × (next_count ≡ count) × (next_value ≡ value))
    ⊎ (IsTrue (is_hex byte) × (count < 6) × (next_count ≡ count + 1) × (next_value ≡ value * 16 + digit_value byte))

-- A byte that represents itself, or a line break of CR and LF.
pub data IsPlain (content : Content) (bytes : List ℕ) (at next : ℕ) : List ℕ → Type 0 where
  itself : IsAllowed content (slice_index bytes at) → next ≡ at + 1 → IsPlain content bytes at next (slice_index bytes at ∷ [])
  break : IsReturn bytes at next → IsPlain content bytes at next (10 ∷ [])
