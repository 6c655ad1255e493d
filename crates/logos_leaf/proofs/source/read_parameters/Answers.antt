use Rattle.std.proofs.Common.{◌≡◌, ◌∙◌, ◌∷◌, ◌+◌, map, drop, ap, sym}
use Rattle.std.proofs.lemmas.List.{at_drop_more, at_drop_all}
use Rattle.logos_enum.specs.Values.{parameter_value}
use Rattle.logos_leaf.specs.Sources.{no_parameter, one_parameter}
use Rattle.logos_leaf.proofs.source.read_parameters.Goals as goal

pub loop-parameter-preserved : goal.loop-parameter-preserved
loop-parameter-preserved c =
    let left : map parameter_value (drop c.loop-parameter.parameter-index c.args.parameters.now)
    ≡ parameter_value c.parameter-item.result ∷ map parameter_value (drop (c.loop-parameter.parameter-index + 1) c.args.parameters.now) =
    at_drop_more (λ xs. map parameter_value xs) c.args.parameters.now c.loop-parameter.parameter-index c.parameter-item.result c.loop-parameter-test.true
    ∙ ap (λ x. parameter_value x ∷ map parameter_value (drop (c.loop-parameter.parameter-index + 1) c.args.parameters.now)) (sym c.parameter-item.is) in
    λ o new rest. c.loop-parameter.invariant o new (rw left (one_parameter c.in_ok-parse_generic.ensures.ok rest))

pub returns : goal.returns
returns c =
    c.loop-parameter.invariant _ _
    (rw (at_drop_all (λ xs. map parameter_value xs) c.args.parameters.now c.loop-parameter.parameter-index c.loop-parameter-test.false) no_parameter)
