-- Views of literals that were read.
use Rattle.std.proofs.Common.{◌≡◌, Option, Some, None, option_map, refl, sym}
use Rattle.std.specs.Prelude.{IfSome}
use Rattle.logos_token.specs.LiteralValues.{IsValue}
use Rattle.logos_token.specs.Held.{held, held_value}
use Rattle.logos_token.specs.declared.token.Literal.{Literal as LiteralToken}
use Rattle.logos_token.proofs.values.HeldLaws.{held-value}
use Rattle.logos_pattern.specs.declared.pattern.literal.Literal.{Literal}
use Rattle.logos_pattern.specs.Literals.{token_of, held_value as value_of}
use Rattle.logos_attribute.specs.Slices.{literal_slice}
use Rattle.logos_attribute.specs.Literals.{text_in}
use Rattle.logos_attribute.specs.LiteralViews.{literal_view}

by_held : (token : LiteralToken) (literal : Option Literal) → IfSome literal (λ l. token_of l ≡ token) → option_map held_value (option_map value_of literal) ≡ held token.text.now →
    option_map literal_view literal ≡ text_in (literal_slice token)
by_held token None t h = rw (sym h) refl
by_held token (Some literal) t h = rw (sym h, sym t) refl

-- the string or byte string that a token was read as
pub read_view : (token : LiteralToken) (literal : Option Literal) → IfSome literal (λ l. token_of l ≡ token) → IsValue token.text.now (option_map value_of literal) →
    option_map literal_view literal ≡ text_in (literal_slice token)
read_view token literal t v = by_held token literal t (held-value token.text.now (option_map value_of literal) v)
