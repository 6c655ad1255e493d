use Rattle.std.proofs.Common.{◌∙◌, ap}
use Rattle.logos_evidence.proofs.ExampleLemmas.{example_is}
use Rattle.logos_evidence.specs.inside.Shown.{shown}
use Rattle.logos_evidence.proofs.examples.example.Goals as goal

pub returns : goal.returns
returns c = λ of_leaves faultless.
    example_is c.args.graph.now _ c.args.leaf _ _ (λ v. v.items) c.in_ok-found.found
    (ap shown c.deref.ensures.value ∙ c.in_ok-states.ensures.states) c.utf8_mode.ensures c.point_from.ensures of_leaves faultless (c.in_ok-states.ensures.finished faultless) c.in_ok-found.ensures
