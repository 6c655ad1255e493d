-- The extents of bounds, defaults and types. An extent reaches to a character that ends it outside
-- angle brackets.
use Rattle.std.specs.Prelude.{◌≡◌, ◌≤◌, ◌==◌, ◌&&◌, ◌||◌, not, if◌then◌else◌, ℕ, ◌+◌, ◌-◌, Bool, false}
use Rattle.logos_lexeme.specs.declared.lexeme.Spacing.{Spacing}
use Rattle.logos_lexeme.specs.declared.lexeme.Spacing.TheVariants.{Alone, Joint}
use Rattle.logos_token.specs.Tokens.{Token, TokenList, punctuation, none, also, rest_of}
use Rattle.logos_enum.specs.declared.extents.End.{End}
use Rattle.logos_enum.specs.declared.extents.End.TheVariants.{OfBounds, OfDefault, OfField, OfParameters}
use Rattle.logos_enum.specs.declared.extents.Angles.{Angles}
use Rattle.logos_enum.specs.Marks.{comma, dash, less, equals, greater, begins_with}

-- Whether a character ends bounds, a default, a field's type, or all generic parameters.
abbrev pub ends : End → ℕ → Bool
ends OfBounds character = ((character == comma) || (character == greater)) || (character == equals)
ends OfDefault character = (character == comma) || (character == greater)
ends OfField character = character == comma
ends OfParameters character = character == greater

-- Whether a character can be the first one of `->`.
abbrev pub begins_arrow : ℕ → Spacing → Bool
begins_arrow character Joint = character == dash
begins_arrow character Alone = false

-- Whether a character is the second one of `->`.
abbrev pub ends_arrow : Bool → ℕ → Bool
ends_arrow arrow character = arrow && (character == greater)

-- The number of open angle brackets after a character. The `>` of `->` closes none.
abbrev pub depth_after : Bool → ℕ → ℕ → ℕ
depth_after arrow depth character =
    if character == less then depth + 1
    else (if (character == greater) && not arrow then depth - 1
    else depth)

-- Whether a character ends the extent, with `depth` angle brackets open.
abbrev pub is_end : End → Bool → ℕ → ℕ → Bool
is_end end arrow depth character = (depth == 0) && (ends end character && not (ends_arrow arrow character))

-- The tokens after the extent, with `depth` angle brackets open. `arrow` is whether the next
-- character can be the second one of `->`.
abbrev pub after_from : End → Bool → ℕ → TokenList → TokenList
after_from end arrow depth none = none
after_from end arrow depth (also (punctuation character spacing span) rest) =
    if is_end end arrow depth character then also (punctuation character spacing span) rest
    else after_from end (begins_arrow character spacing) (depth_after arrow depth character) rest
after_from end arrow depth (also token rest) = after_from end false depth rest

-- The tokens after the extent.
abbrev pub after_extent : End → TokenList → TokenList
after_extent end run = after_from end false 0 run

-- The tokens from the `>` on that closes the generic parameters, if `<` comes first, and all tokens
-- otherwise.
abbrev pub after_generics : TokenList → TokenList
after_generics run = if begins_with less run then after_extent OfParameters (rest_of run) else run

-- One step over a token of an extent, with the angle brackets that are open after it.
pub record IsStep (end : End) (angles : Angles) (run : TokenList) (next : Angles) (rest : TokenList) : Type 0 where
  pub same : after_from end angles.arrow angles.depth run ≡ after_from end next.arrow next.depth rest
  pub deeper : next.depth ≤ angles.depth + 1
  pub token : Token
  pub is : run ≡ also token rest
