-- The literal of a `token`, `regex` or `skip`.
use Rattle.std.specs.Prelude.{ℕ, ◌*◌, Bool, true, false, List, length, string_bytes}
use Rattle.logos_token.specs.declared.token.Literal.{Literal as LiteralToken}
use Rattle.logos_token.specs.declared.token.value.LiteralValue.{LiteralValue}
use Rattle.logos_token.specs.declared.token.value.LiteralValue.TheVariants.{Text as TextValue, Bytes as BytesValue}
use Rattle.logos_pattern.specs.declared.pattern.literal.Literal.{Literal}
use Rattle.logos_pattern.specs.declared.pattern.literal.Literal.TheVariants.{Utf8, Bytes}
use Rattle.logos_pattern.specs.Escaping.{escaped_text, escaped_bytes}

-- The literal is a string, so its pattern matches characters.
abbrev pub is_unicode : Literal → Bool
is_unicode (Utf8 string) = true
is_unicode (Bytes bytes) = false

-- The token from which the literal was read.
abbrev pub token_of : Literal → LiteralToken
token_of (Utf8 string) = string.token
token_of (Bytes bytes) = bytes.token

-- The value of the literal.
abbrev pub held_value : Literal → LiteralValue
held_value (Utf8 string) = TextValue string.value
held_value (Bytes bytes) = BytesValue bytes.value

-- The bytes of the literal's value.
abbrev pub held_bytes : Literal → List ℕ
held_bytes (Utf8 string) = string_bytes string.value
held_bytes (Bytes bytes) = bytes.value.items

-- The default priority of a `token` with this literal.
abbrev pub literal_value : Literal → ℕ
literal_value literal = 2 * length (held_bytes literal)

-- The literal's value as the text of a pattern.
abbrev pub escaped : Literal → Bool → List ℕ
escaped (Utf8 string) literal = escaped_text literal (string_bytes string.value)
escaped (Bytes bytes) literal = escaped_bytes literal bytes.value.items
