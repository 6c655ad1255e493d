use Rattle.std.proofs.Common.{◌∙◌, ap}
use Rattle.logos_evidence.proofs.CoveringLemmas.{covering_is}
use Rattle.logos_evidence.specs.inside.Shown.{shown}
use Rattle.logos_evidence.proofs.cover.covering_inputs.Goals as goal

pub returns : goal.returns
returns c =
    covering_is c.args.graph.now.states _ c.args.graph.now.utf8 _ _ _ (ap shown c.deref.ensures.value ∙ c.in_ok-states.ensures.states) c.utf8_mode.ensures c.point_from.ensures
    c.in_ok-inputs.ensures
