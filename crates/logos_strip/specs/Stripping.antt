-- The tokens of an enum without the parts that belong to the derive macro.
use Rattle.std.specs.Prelude.{List, [], ◌∷◌, Option, Some, None, if◌then◌else◌}
use Rattle.logos_lexeme.specs.declared.lexeme.Spacing.TheVariants.{Alone}
use Rattle.logos_token.specs.Tokens.{Token, punctuation, group, TokenList, none, also}
use Rattle.logos_strip.specs.declared.spots.Scope.{Scope}
use Rattle.logos_strip.specs.declared.spots.Scope.TheVariants.{Enum}
use Rattle.logos_strip.specs.declared.spots.TokenSpot.{TokenSpot}
use Rattle.logos_strip.specs.declared.spots.TokenSpot.TheVariants.{Open}
use Rattle.logos_strip.specs.Spots.{goes, spot_after, scope_inside}

-- A token without joint spacing.
abbrev pub alone : Token → Token
alone (punctuation character spacing span) = punctuation character Alone span
alone token = token

-- A token that remains, before these pieces. Punctuation directly before a removed token is alone.
abbrev pub in_front : List (Option Token) → Token → Token
in_front (None ∷ rest) token = alone token
in_front rest token = token

-- The tokens of a run that remain. `None` represents a token that is removed.
abbrev pub left : List (Option Token) → TokenList
left [] = none
left (None ∷ rest) = left rest
left (Some token ∷ rest) = also (in_front rest token) (left rest)

abbrev mutual
  -- A token that remains, with the tokens inside it that remain.
  pub thinned : Option Scope → Token → Token
  thinned (Some scope) (group delimiter span inside) = group delimiter span (left (sorted scope Open inside))
  thinned scope token = token

  -- For each token of a run, from a spot on, the token that remains of it, or `None` if it is
  -- removed.
  pub sorted : Scope → TokenSpot → TokenList → List (Option Token)
  sorted scope spot none = []
  sorted scope spot (also token rest) =
      let gone = goes scope spot (also token rest) in
      (if gone then None else Some (thinned (scope_inside scope spot token rest) token)) ∷ sorted scope (spot_after scope spot gone token) rest

-- The tokens of an enum that remain.
abbrev pub stripped : TokenList → TokenList
stripped tokens = left (sorted Enum Open tokens)
