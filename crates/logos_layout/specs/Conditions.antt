-- The conditions under which an item is compiled.
use Rattle.std.specs.Prelude.{ℕ, List, [], ◌++◌, codes, Option, Some, None}
use Rattle.logos_enum.specs.AttributeValues.{AttributeValue}
use Rattle.logos_lexeme.specs.declared.lexeme.Delimiter.TheVariants.{Parenthesis, Bracket, Brace}
use Rattle.logos_token.specs.First.{after_word}
use Rattle.logos_token.specs.Printing.{printed}
use Rattle.logos_token.specs.Tokens.{Token, identifier, punctuation, literal, doc, group, TokenList, none, also}

-- The attribute with this run between its brackets, on a line of its own.
abbrev pub attribute_text : TokenList → List ℕ
attribute_text inside = codes "#[" ++ printed inside ++ codes "]\n"

-- The attribute with this run between its brackets, if tokens follow the word `cfg` in the run.
abbrev pub text_if : Option TokenList → TokenList → List ℕ
text_if None inside = []
text_if (Some rest) inside = attribute_text inside

-- The attribute with this run between its brackets, if it is a condition: if the run begins with
-- `cfg`.
abbrev pub condition_text : TokenList → List ℕ
condition_text inside = text_if (after_word (codes "cfg") inside) inside

-- The condition of an attribute. A documentation comment has no brackets.
abbrev pub attribute_condition : AttributeValue → List ℕ
attribute_condition attribute = elim attribute.inside [ None ↦ [] | Some inside ↦ condition_text inside ]

abbrev mutual
  -- The `cfg` attributes of an item, among the attributes that come first in it: documentation
  -- comments, and brackets after `#`.
  pub conditions_text : TokenList → List ℕ
  conditions_text none = []
  conditions_text (also (doc text span) rest) = conditions_text rest
  conditions_text (also (punctuation character spacing span) rest) = bracket_conditions rest
  conditions_text (also (identifier text span) rest) = []
  conditions_text (also (literal text span) rest) = []
  conditions_text (also (group delimiter span inside) rest) = []

  -- The `cfg` attributes of an item, from the tokens after a `#` among its leading attributes.
  pub bracket_conditions : TokenList → List ℕ
  bracket_conditions none = []
  bracket_conditions (also (group Bracket span inside) rest) = condition_text inside ++ conditions_text rest
  bracket_conditions (also (group Parenthesis span inside) rest) = []
  bracket_conditions (also (group Brace span inside) rest) = []
  bracket_conditions (also (identifier text span) rest) = []
  bracket_conditions (also (punctuation character spacing span) rest) = []
  bracket_conditions (also (literal text span) rest) = []
  bracket_conditions (also (doc text span) rest) = []
