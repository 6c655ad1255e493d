-- The faults that end the reading of a source.
use Rattle.std.specs.Prelude.{◌≡◌, ℕ, ◌<◌, ◌≤◌, List, length, codes, Ok, Err}
use Rattle.logos_lexeme.specs.declared.lexeme.Span.{Span}
use Rattle.logos_lexeme.specs.declared.lexeme.LexicalKind.{LexicalKind}
use Rattle.logos_lexeme.specs.declared.lexeme.LexicalKind.TheVariants.{BadCharacter, BadLiteral, Unterminated, Unbalanced}
use Rattle.logos_token.specs.declared.error.fault_code.FaultCode.TheVariants as codes_of
use Rattle.logos_token.specs.declared.error.detail.Detail.TheVariants as details
use Rattle.logos_token.specs.Faults.{Fault}
use Rattle.logos_token.specs.Tokens.{TokenList, run_span, depth_of}
use Rattle.logos_token.specs.Spelling.{Spells, IsUnreadable, IsTooDeep}
use Rattle.logos_enum.specs.declared.error.ReadError.{ReadError}
use Rattle.logos_enum.specs.declared.error.ReadError.TheVariants.{NotAnEnum, Grammar, TypeUnsupported, LimitTypeNesting, Memory}
use Rattle.logos_enum.specs.Enum.{Reads}
use Rattle.logos_enum.specs.EnumValues.{EnumValue}
use Rattle.logos_type_params.specs.TypeParams.{limit_type_nesting}
use Rattle.logos_attribute.specs.Reports.{fault, fault_with, only}

-- The source spells this enum, and the span reaches from its first token to its last.
pub record YieldsEnum (source : List ℕ) (value : EnumValue) (item : Span) : Type 0 where
  pub tokens : TokenList
  pub spelled : Spells source tokens
  pub reads : Reads tokens (Ok value)
  pub whole : item ≡ run_span tokens

-- The message of a lexical fault.
abbrev pub lexical_text : LexicalKind → List ℕ
lexical_text BadCharacter = codes "unreadable source: BadCharacter"
lexical_text BadLiteral = codes "unreadable source: BadLiteral"
lexical_text Unterminated = codes "unreadable source: Unterminated"
lexical_text Unbalanced = codes "unreadable source: Unbalanced"

-- The fault of a source that cannot be cut into tokens.
abbrev pub lexical_fault : LexicalKind → Span → Fault
lexical_fault kind span = fault_with codes_of.Lexical (lexical_text kind) span (details.Lexical kind)

-- These are the faults of tokens that are not an enum: one fault, determined by the error of
-- reading them. Running out of memory is not a fault.
abbrev pub IsMisread : ReadError → List Fault → Type 0
IsMisread (NotAnEnum span) faults = faults ≡ only (fault codes_of.NotAnEnum (codes "Logos can be only be derived for enums") span)
IsMisread (Grammar span) faults = faults ≡ only (fault codes_of.Grammar (codes "the enum is not well formed") span)
IsMisread (TypeUnsupported span) faults = faults ≡ only (fault codes_of.TypeUnsupported (codes "type not supported") span)
IsMisread (LimitTypeNesting span) faults = faults ≡ only (limit_type_nesting span)
IsMisread Memory faults = ⊥

-- The fault of a source that is longer than the limit.
abbrev pub too_long : List ℕ → Fault
too_long source = fault codes_of.LimitSource (codes "limit LimitSource passed") (record { from = 0; to = length source })

-- The tokens are not an enum, and these are their faults.
pub record EndsTokens (tokens : TokenList) (faults : List Fault) : Type 0 where
  pub error : ReadError
  pub reads : Reads tokens (Err error)
  pub are : IsMisread error faults

-- The fault ends the reading of the source: it is too long, it has no tokens, its tokens are nested
-- too deeply, or they are within that limit and are not an enum. A source whose tokens are nested
-- too deeply therefore has that fault regardless of its tokens.
pub data EndsReading (source : List ℕ) (ending : Fault) : Type 0 where
  source_limit : 16777216 < length source → ending ≡ too_long source → EndsReading source ending
  nesting_limit : {span : Span} → IsTooDeep source span →
      ending ≡ fault codes_of.LimitTokenNesting (codes "limit LimitTokenNesting passed") span → EndsReading source ending
  unreadable : {kind : LexicalKind} {span : Span} → IsUnreadable source kind span →
      ending ≡ lexical_fault kind span → EndsReading source ending
  misread : {tokens : TokenList} → Spells source tokens → depth_of tokens ≤ 128 → EndsTokens tokens (only ending) → EndsReading source ending

-- The tokens of the source are nested no deeper than the limit.
abbrev pub IsShallow : List ℕ → Type 0
IsShallow source = (tokens : TokenList) → Spells source tokens → depth_of tokens ≤ 128
