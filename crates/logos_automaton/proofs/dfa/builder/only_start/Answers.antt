use Rattle.std.proofs.Common.{◌≡◌, sym, subst}
use Rattle.logos_automaton.specs.Keys.{state_of, start_state, IsAt, IsReached}
use Rattle.logos_positions.specs.Marks.{IsRising}
use Rattle.logos_automaton.proofs.runs.BuildingLemmas.{start_underway}
use Rattle.logos_positions.proofs.steps.SeveralLemmas.{no_positions}
use Rattle.logos_automaton.proofs.dfa.builder.only_start.Goals as goal

pub returns : goal.returns
returns c = λ looks ts.
    let n = c.in_ok-number_of.ensures in
    let ks = c.number_of.new.states.keys in
    let is : state_of c.start_key.result ≡ start_state = c.start_key.ensures in
    let rising : IsRising (state_of c.start_key.result).positions = subst (λ s. IsRising s.positions) (sym is) no_positions.rising in
    start_underway ts looks c.new-states.result.keys ks c.in_ok-number_of.field-0 c.new-states.ensures.empty (λ h. n.rising h rising) n.distinct
    (λ h r. n.reached ts looks h (subst (IsReached ts looks) (sym is) r)) n.few (subst (IsAt ks c.in_ok-number_of.field-0) is n.stored)
