-- Reading types with the limit of a lexer: at most 128 types are nested, and `+` joins bounds.
use Rattle.std.specs.Prelude.{ℕ, true}
use Rattle.logos_token.specs.Tokens.{TokenList}
use Rattle.logos_type.specs.Parts.{Tree}
use Rattle.logos_type_reader.specs.Table.{Fault}
use Rattle.logos_type_reader.specs.Reading.{IsType, NoType}

-- The greatest number of types that can be nested. The outermost one counts.
abbrev pub type_nesting : ℕ
type_nesting = 128

-- The run begins with this type, and the rest follows.
abbrev pub IsTypeExpr : TokenList → Tree → TokenList → Type 0
IsTypeExpr run tree rest = IsType type_nesting true run tree rest

-- The run does not begin with a type, and this is its first fault from the left.
abbrev pub NoTypeExpr : TokenList → Fault → Type 0
NoTypeExpr run fault = NoType type_nesting true run fault
