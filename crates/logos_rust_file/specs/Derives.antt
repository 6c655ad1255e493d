-- The enums that derive `Logos`, determined by the entries of `derive` that stripping removes.
use Rattle.std.specs.Prelude.{◌==◌, ◌&&◌, ◌||◌, Bool, true, false, codes}
use Rattle.logos_lexeme.specs.declared.lexeme.Delimiter.TheVariants.{Parenthesis, Bracket}
use Rattle.logos_token.specs.Tokens.{TokenList, punctuation, doc, group, none, also}
use Rattle.logos_enum.specs.Marks.{hash}
use Rattle.logos_token.specs.First.{after_word}
use Rattle.logos_strip.specs.Helpers.{is_comma, is_macro_entry, holds_after}

-- Whether an entry names the derive macro. The flag is whether an entry may begin at the first
-- token.
abbrev pub lists_macro : Bool → TokenList → Bool
lists_macro begins none = false
lists_macro begins (also token rest) = (begins && is_macro_entry (also token rest)) || lists_macro (is_comma token) rest

-- Whether the run begins with a parenthesis that lists the derive macro.
abbrev pub begins_list : TokenList → Bool
begins_list (also (group Parenthesis span inside) rest) = lists_macro true inside
begins_list run = false

-- Whether the brackets of an attribute contain a `derive` that lists the derive macro.
abbrev pub derives_in : TokenList → Bool
derives_in run = holds_after begins_list (after_word (codes "derive") run)

abbrev mutual
  -- Whether one of the leading attributes derives `Logos`.
  pub derives : TokenList → Bool
  derives (also (doc text span) rest) = derives rest
  derives (also (punctuation character spacing span) rest) = (character == hash) && derives_after rest
  derives run = false

  -- Whether one of the leading attributes derives `Logos`, after the `#` of the first one.
  pub derives_after : TokenList → Bool
  derives_after (also (group Bracket span inside) rest) = derives_in inside || derives rest
  derives_after run = false
