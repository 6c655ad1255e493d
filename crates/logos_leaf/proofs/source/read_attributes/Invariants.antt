use Rattle.std.proofs.Common.{List}
use Rattle.logos_token.specs.Faults.{Fault}
use Rattle.logos_token.specs.Tokens.{count_of}
use Rattle.logos_token.specs.Views.{tokens_of}
use Rattle.logos_definition.specs.Options.{OptionsView}
use Rattle.logos_definition.specs.ParserViews.{parser_view}
use Rattle.logos_leaf.specs.Sources.{ReadsAttributes}
use Rattle.logos_leaf.proofs.source.read_attributes.Given as goal

-- a result for the rest completes to a result for the whole
abbrev pub invariant-loop-attribute : goal.invariant-loop-attribute
invariant-loop-attribute l = (o : OptionsView) (new : List Fault) →
    ReadsAttributes (parser_view l.parser) o l.parser.errors new (tokens_of l.rest) →
    ReadsAttributes (parser_view l.fn.parser) o l.fn.parser.errors new (tokens_of l.fn.attributes)

abbrev pub decreases-loop-attribute : goal.decreases-loop-attribute
decreases-loop-attribute l = count_of (tokens_of l.rest)
