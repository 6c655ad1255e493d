-- The forms of the values of arguments.
use Rattle.std.proofs.Common.{◌≡◌, false, refl}
use Rattle.logos_token.specs.declared.token.Ident.{Ident}
use Rattle.logos_token.specs.declared.token.views.Tokens.{Tokens}
use Rattle.logos_attribute.specs.declared.nested.NestedValue.{NestedValue}
use Rattle.logos_attribute.specs.declared.nested.NestedValue.TheVariants.{Assign, Literal, Group, KeywordAssign}
use Rattle.logos_attribute.specs.Nested.{value_of}
use Rattle.logos_definition.specs.Arguments.{is_grouped, is_keyed}

pub not_keyed : (value : NestedValue) → ((name : Ident) (run : Tokens) → value ≡ KeywordAssign name run → ⊥) → is_keyed (value_of value) ≡ false
not_keyed (Assign run) other = refl
not_keyed (Literal literal) other = refl
not_keyed (Group run) other = refl
not_keyed (KeywordAssign name run) other = absurd (other name run refl)

pub not_grouped : (value : NestedValue) → ((run : Tokens) → value ≡ Group run → ⊥) → is_grouped (value_of value) ≡ false
not_grouped (Assign run) other = refl
not_grouped (Literal literal) other = refl
not_grouped (Group run) other = absurd (other run refl)
not_grouped (KeywordAssign name run) other = refl
