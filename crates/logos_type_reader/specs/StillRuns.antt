-- The tokens of an array's length or of braces, in which no types are read.
use Rattle.std.specs.Prelude.{List, [], ◌∷◌, ◌++◌}
use Rattle.logos_token.specs.Tokens.{Token, identifier, punctuation, literal, doc, group, TokenList, none, also}
use Rattle.logos_type.specs.Parts.{Tree, sign, word, value, opening, closing, spaced_mark, comment}

abbrev mutual
  -- A token of an array's length or of braces, as parts.
  pub still_token : Token → List Tree
  still_token (identifier text span) = sign (word text) ∷ []
  still_token (punctuation character spacing span) = sign (spaced_mark character spacing) ∷ []
  still_token (literal text span) = sign (value text) ∷ []
  still_token (doc text span) = sign (comment text) ∷ []
  still_token (group delimiter span inside) = sign (opening delimiter) ∷ (still_run inside ++ sign (closing delimiter) ∷ [])

  -- The tokens of an array's length or of braces, as parts, including the tokens inside groups.
  pub still_run : TokenList → List Tree
  still_run none = []
  still_run (also token rest) = still_token token ++ still_run rest
