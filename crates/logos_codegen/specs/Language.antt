-- The tokenizer of expressions as a value.
use Rattle.std.specs.Prelude.{◌≡◌, Bool, List}
use Rattle.logos_automaton.specs.Munch.{Rule}
use Rattle.logos_code.specs.Code.{CodeValue}
use Rattle.logos_code.specs.Headline.{IsLexer}
use Rattle.logos_codegen.specs.Source.{IsAccepted}
use Rattle.logos_codegen.specs.Tokenizing.{kinds_of_views}
use Rattle.logos_codegen.specs.declared.expr.ExprKind.{ExprKind}
use Rattle.logos_codegen.specs.declared.expr.TheConstants.{SOURCE}

-- The view of the tokenizer: its code, and the kind of the tokens of each leaf.
pub record LanguageValue : Type 0 where
  pub code : CodeValue
  pub kinds : List ExprKind

-- From each point of each input the code finds the match of maximal munch under the leaves of the
-- enum, so each of its runs on a text has exactly the items of maximal munch. The kinds are those
-- with the names of the leaves' variants.
pub record IsLanguage (language : LanguageValue) : Type 0 where
  pub rules : List Rule
  pub utf8 : Bool
  pub accepted : IsAccepted SOURCE.now rules utf8
  pub lexer : IsLexer rules utf8 language.code
  pub kinds : language.kinds ≡ kinds_of_views accepted.leaves
