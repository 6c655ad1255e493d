-- The warnings about a lexer: those for its enum, those about callbacks, and those about leaves
-- that are never found.
use Rattle.std.specs.Prelude.{◌≡◌, ◌⊎◌, ℕ, List, Some, codes, slice_get, string_bytes, true}
use Rattle.logos_graph.specs.View.{GraphValue}
use Rattle.logos_inspect.specs.Marks.{IsMarked}
use Rattle.logos_pattern.specs.declared.leaf.Leaf.{Leaf}
use Rattle.logos_report.specs.declared.warnings.Warning.{Warning}
use Rattle.logos_token.specs.Tokens.{TokenList}
use Rattle.logos_warnings.specs.Shown.{AddsEach, AreOfTokens}
use Rattle.logos_warnings.specs.declared.origin.Origin.{Origin}
use Rattle.logos_causes.specs.declared.callbacks.CallbackMistake.{CallbackMistake}
use Rattle.logos_causes.specs.declared.callbacks.CallbackMistake.TheVariants.{OptionName, NoFunction, Dropped, NoBrackets, TypeInBody, Return, Question}

-- The message about a mistake in a callback.
abbrev pub callback_text : CallbackMistake → List ℕ
callback_text OptionName = codes "an option without a value is a callback of this name"
callback_text NoFunction = codes "this callback is neither the path of a function nor a closure"
callback_text Dropped = codes "the body of this closure ends before this, which is dropped"
callback_text NoBrackets = codes "the body of this closure loses its outer brackets"
callback_text TypeInBody = codes "the type in front of the body of this closure becomes a part of the body"
callback_text Return = codes "`return` leaves the function into which this closure is written, not the closure"
callback_text Question = codes "`?` leaves the function into which this closure is written, not the closure"

-- The warning is about a callback: it has the message of one of these mistakes.
pub record IsOfCallback (warning : Warning) : Type 0 where
  pub mistake : CallbackMistake
  pub message : string_bytes warning.message ≡ callback_text mistake

-- The warning is at a leaf of a graph that no state marks. Such a leaf is never found.
pub record IsHidden (graph : GraphValue) (warning : Warning) : Type 0 where
  pub number : ℕ
  pub leaf : Leaf
  pub has : slice_get graph.leaves number ≡ Some leaf
  pub unmarked : ¬ IsMarked graph.states number
  pub span : warning.span ≡ leaf.span

-- The warning is about a callback, or about a leaf of a graph.
abbrev pub IsOfLexer : GraphValue → Warning → Type 0
IsOfLexer graph warning = IsOfCallback warning ⊎ IsHidden graph warning

-- The warnings about an enum with these tokens, whose lexer has this graph.
pub record AreOfLexer (tokens : TokenList) (graph : GraphValue) (origin : Origin) (warnings : List Warning) : Type 0 where
  pub front : List Warning
  pub of_tokens : AreOfTokens tokens true origin front
  pub others : AddsEach (IsOfLexer graph) front warnings
