-- Invariants that hold while the value of a string is read.
use Rattle.std.specs.Prelude.{◌≡◌, ◌≢◌, ℕ, ◌<◌, List, ◌++◌, Bool, Option, Some, None, string_bytes}
use Rattle.std.specs.Str.{IsCharBoundary}
use Rattle.logos_lexeme.specs.LiteralBodies.{Holds}
use Rattle.logos_lexeme.specs.declared.lexeme.bodies.Piece.{Piece}
use Rattle.logos_lexeme.specs.declared.lexeme.bodies.Piece.TheVariants.{Nothing, Byte, Character}
use Rattle.logos_lexeme.specs.declared.lexeme.openings.Content.{Content}
use Rattle.logos_lexeme.specs.declared.lexeme.openings.Content.TheVariants.{Text as Characters, Bytes as Octets, C}
use Rattle.logos_token.specs.declared.token.value.LiteralValue.{LiteralValue}
use Rattle.logos_token.specs.declared.token.value.LiteralValue.TheVariants.{Text, Bytes}

-- Between two offsets the pieces of a string denote these bytes, and the string has the same end
-- from the second offset as from the first.
pub record IsRest (escapes : Bool) (content : Content) (bytes : List ℕ) (at next to : ℕ) (first : List ℕ) : Type 0 where
  pub on : (held : List ℕ) → Holds escapes content bytes next to held → Holds escapes content bytes at to (first ++ held)
  pub back : (held : List ℕ) → Holds escapes content bytes at to held → (rest : List ℕ) × Holds escapes content bytes next to rest

-- The bytes that the pieces up to a later offset denote were appended to a text.
pub record IsAdded (escapes : Bool) (bytes : List ℕ) (at next to : ℕ) (old new : List ℕ) : Type 0 where
  pub first : List ℕ
  pub added : new ≡ old ++ first
  pub rest : IsRest escapes Characters bytes at next to first
  pub moves : at < next
  pub boundary : IsCharBoundary bytes next

-- A piece of a text, where each byte of the piece is a character.
abbrev pub IsAscii : Piece → Type 0
IsAscii Nothing = Unit {0}
IsAscii (Byte byte) = byte < 128
IsAscii (Character character) = Unit {0}

-- The value of a string whose contents are this span, if it has one. A C string has none.
abbrev pub IsHeld : Bool → Content → List ℕ → ℕ → ℕ → Option LiteralValue → Type 0
IsHeld escapes content bytes from to None = content ≢ C → (held : List ℕ) → Holds escapes content bytes from to held → ⊥
IsHeld escapes content bytes from to (Some (Text value)) = (content ≡ Characters) × Holds escapes Characters bytes from to (string_bytes value)
IsHeld escapes content bytes from to (Some (Bytes value)) = (content ≡ Octets) × Holds escapes Octets bytes from to value.items
