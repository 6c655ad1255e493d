use Rattle.std.proofs.Common.{◌<◌, ℕ, ◌∙◌, ap, subst, length}
use Rattle.logos_automaton.specs.DfaView.{dfa_of}
use Rattle.logos_evidence.proofs.LossLemmas.{loss_is}
use Rattle.logos_evidence.specs.inside.Machines.{point_from}
use Rattle.logos_evidence.specs.inside.Shown.{shown}
use Rattle.logos_evidence.proofs.losses.loses.Goals as goal

pub returns : goal.returns
returns c = λ of_leaves faultless.
    loss_is c.args.graph.now (dfa_of c.dfa-dfa.result.now) _ c.args.leaf _ _ (λ v. v.items) c.in_ok-found.found
    c.dfa-dfa.ensures (ap shown c.deref.ensures.value ∙ c.in_ok-states.ensures.states) c.utf8_mode.ensures
    (c.point_from-start.ensures ∙ ap point_from (c.index.ensures ∙ c.start.ensures.start)) (subst (λ (s : ℕ). s < length (dfa_of c.dfa-dfa.result.now).matches) c.start.ensures.start c.start.ensures.within)
    of_leaves faultless (c.in_ok-states.ensures.finished faultless) c.in_ok-found.ensures
