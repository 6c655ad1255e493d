use Rattle.std.proofs.Common.{List, map}
use Rattle.logos_token.specs.Tokens.{count_of}
use Rattle.logos_token.specs.Views.{tokens_of}
use Rattle.logos_enum.specs.Generics.{OneParameter}
use Rattle.logos_enum.specs.Marks.{begins_with, greater}
use Rattle.logos_enum.specs.Rules.{Outcome, Listed}
use Rattle.logos_enum.proofs.RuleLemmas.{joined}
use Rattle.logos_enum.specs.Values.{ParameterValue, parameter_value}
use Rattle.logos_enum.proofs.generics.read_parameters.Given as goal

abbrev pub invariant-loop-rest : goal.invariant-loop-rest
invariant-loop-rest l =
    (outcome : Outcome (List ParameterValue)) → Listed (begins_with greater) OneParameter (tokens_of l.rest) outcome →
    Listed (begins_with greater) OneParameter (tokens_of l.tokens) (joined (map parameter_value l.list.items) outcome)

abbrev pub decreases-loop-rest : goal.decreases-loop-rest
decreases-loop-rest l = count_of (tokens_of l.rest)
