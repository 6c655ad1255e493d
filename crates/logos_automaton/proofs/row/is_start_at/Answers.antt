use Rattle.std.proofs.Common.{sym, ap, ◌∙◌, refl}
use Rattle.logos_automaton.specs.Keys.{is_start, state_of}
use Rattle.logos_automaton.proofs.keys.TargetLemmas.{same_state_at}
use Rattle.logos_automaton.proofs.row.is_start_at.Goals as goal

pub returns : goal.returns
returns c = λ not_start s at.
    let key = c.in-Some.key.now in
    let same = same_state_at c.args.states.now.keys c.args.state s (state_of key) at (record { key = key; is = sym c.in-Some.ensures.key; same = refl }) in
    ap (λ t. is_start t.kind) same ∙ sym c.is_start.ensures ∙ not_start
