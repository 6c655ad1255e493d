use Rattle.std.proofs.Common.{List, map, drop}
use Rattle.logos_token.specs.Faults.{Fault}
use Rattle.logos_enum.specs.Values.{parameter_value}
use Rattle.logos_definition.specs.Options.{OptionsView}
use Rattle.logos_definition.specs.ParserViews.{parser_view}
use Rattle.logos_leaf.specs.Sources.{ReadsParameters}
use Rattle.logos_leaf.proofs.source.read_parameters.Given as goal

-- a result for the rest completes to a result for the whole
abbrev pub invariant-loop-parameter : goal.invariant-loop-parameter
invariant-loop-parameter l = (o : OptionsView) (new : List Fault) →
    ReadsParameters (parser_view l.parser) o l.parser.errors new (map parameter_value (drop l.parameter-index l.parameters)) →
    ReadsParameters (parser_view l.fn.parser) o l.fn.parser.errors new (map parameter_value l.parameters)
