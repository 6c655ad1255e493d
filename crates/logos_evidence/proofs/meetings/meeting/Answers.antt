use Rattle.std.proofs.Common.{◌<◌, ℕ, ◌∙◌, ap, subst, false, length}
use Rattle.logos_automaton.specs.DfaView.{dfa_of}
use Rattle.logos_evidence.proofs.MeetingLemmas.{meeting_is}
use Rattle.logos_evidence.specs.inside.Machines.{meeting_at}
use Rattle.logos_evidence.proofs.meetings.meeting.Goals as goal

pub returns : goal.returns
returns c = λ of_leaves starts.
    let dfa = dfa_of c.dfa.result.now in
    meeting_is c.args.graph.now dfa c.args.set.now _ _ (λ v. v.items) c.in_ok-found.found
    c.dfa.ensures c.utf8_mode.ensures
    (c.point_at-start.ensures ∙ ap (λ s. meeting_at s false) (c.index.ensures ∙ c.start.ensures.start)) (subst (λ (s : ℕ). s < length dfa.matches) c.start.ensures.start c.start.ensures.within)
    c.requires.some c.requires.ascending of_leaves starts c.in_ok-found.ensures
