-- The lexemes of a source text, and the faults where no lexeme begins.
use Rattle.std.specs.Prelude.{◌≡◌, ◌≢◌, ℕ, ◌≤◌, List, length}
use Rattle.logos_lexeme.specs.LexemeCharacters.{past}
use Rattle.logos_lexeme.specs.LexemeOpenings.{opening_at, kind_of}
use Rattle.logos_lexeme.specs.LexemeEnds.{Ends, IsSuffix}
use Rattle.logos_lexeme.specs.LiteralBodies.{IsSound}
use Rattle.logos_lexeme.specs.declared.lexeme.Span.{Span}
use Rattle.logos_lexeme.specs.declared.lexeme.LexemeKind.{LexemeKind}
use Rattle.logos_lexeme.specs.declared.lexeme.LexemeKind.TheVariants.{Literal}
use Rattle.logos_lexeme.specs.declared.lexeme.LexicalKind.{LexicalKind}
use Rattle.logos_lexeme.specs.declared.lexeme.LexicalKind.TheVariants.{BadCharacter, BadLiteral, Unterminated, Unbalanced}
use Rattle.logos_lexeme.specs.declared.lexeme.openings.Opening.TheVariants.{Nothing}

-- A literal reaches to the end of its suffix. Any other lexeme has no suffix.
abbrev pub IsSuffixed : List ℕ → LexemeKind → ℕ → ℕ → Type 0
IsSuffixed bytes Literal end to = IsSuffix bytes end to
IsSuffixed bytes _ end to = to ≡ end

-- The next lexeme or gap: it opens at `from` and ends, is well-formed, and is of this kind.
pub record IsNext (bytes : List ℕ) (from : ℕ) (kind : LexemeKind) (to : ℕ) : Type 0 where
  pub end : ℕ
  pub ends : Ends bytes from (opening_at bytes from) end
  pub sound : IsSound bytes from (opening_at bytes from) end
  pub is_kind : kind ≡ kind_of (opening_at bytes from)
  pub suffixed : IsSuffixed bytes kind end to
  pub within : to ≤ length bytes

-- The fault at a byte offset, and the end of its span: a character that opens nothing; a literal
-- that ends but is malformed; or a literal or comment without an end.
abbrev pub IsFaulty : List ℕ → ℕ → LexicalKind → ℕ → Type 0
IsFaulty bytes from BadCharacter to = (opening_at bytes from ≡ Nothing) × (to ≡ past bytes from)
IsFaulty bytes from BadLiteral to = Ends bytes from (opening_at bytes from) to × (IsSound bytes from (opening_at bytes from) to → ⊥)
IsFaulty bytes from Unterminated to = (opening_at bytes from ≢ Nothing) × ((end : ℕ) → Ends bytes from (opening_at bytes from) end → ⊥) × (to ≡ length bytes)
IsFaulty bytes from Unbalanced to = ⊥

-- The reason why there is no next lexeme, with its span. Unbalanced delimiters are not covered
-- here.
pub record IsStuck (bytes : List ℕ) (from : ℕ) (kind : LexicalKind) (span : Span) : Type 0 where
  pub begins : span.from ≡ from
  pub fault : IsFaulty bytes from kind span.to
