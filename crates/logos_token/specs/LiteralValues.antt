-- The values of string and byte string literals.
use Rattle.std.specs.Prelude.{◌≡◌, ℕ, ◌-◌, true, false, List, Option, Some, None, string_bytes}
use Rattle.logos_lexeme.specs.LexemeOpenings.{opening_at}
use Rattle.logos_lexeme.specs.LexemeEnds.{Ends, body_of}
use Rattle.logos_lexeme.specs.LiteralBodies.{Holds}
use Rattle.logos_lexeme.specs.declared.lexeme.openings.Content.{Content}
use Rattle.logos_lexeme.specs.declared.lexeme.openings.Content.TheVariants.{Text as Characters, Bytes as Octets}
use Rattle.logos_lexeme.specs.declared.lexeme.openings.Opening.{Opening}
use Rattle.logos_lexeme.specs.declared.lexeme.openings.Opening.TheVariants.{Quotes, Raw}
use Rattle.logos_token.specs.declared.token.value.LiteralValue.{LiteralValue}
use Rattle.logos_token.specs.declared.token.value.LiteralValue.TheVariants.{Text, Bytes}

-- The string at the start of a text that opens in this way and ends at `end` has this content, and
-- its pieces denote these bytes.
abbrev pub HoldsIn : List ℕ → Opening → ℕ → Content → List ℕ → Type 0
HoldsIn text (Quotes content) end other held = (content ≡ other) × Holds true content text (body_of (Quotes content) 0) (end - 1) held
HoldsIn text (Raw content count) end other held = (content ≡ other) × Holds false content text (body_of (Raw content count) 0) (end - 1 - count) held
HoldsIn text _ end other held = ⊥

-- A text begins with a string with this content, whose pieces denote these bytes.
pub record BeginsWithString (text : List ℕ) (content : Content) (held : List ℕ) : Type 0 where
  pub end : ℕ
  pub ends : Ends text 0 (opening_at text 0) end
  pub holds : HoldsIn text (opening_at text 0) end content held

-- The text of the string or the bytes of the byte string at the start of a text, if the text begins
-- with one.
abbrev pub IsValue : List ℕ → Option LiteralValue → Type 0
IsValue text None = ((held : List ℕ) → BeginsWithString text Characters held → ⊥) × ((held : List ℕ) → BeginsWithString text Octets held → ⊥)
IsValue text (Some (Text value)) = BeginsWithString text Characters (string_bytes value)
IsValue text (Some (Bytes value)) = BeginsWithString text Octets value.items
