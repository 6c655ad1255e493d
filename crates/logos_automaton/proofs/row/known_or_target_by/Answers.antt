use Rattle.logos_automaton.proofs.keys.TargetLemmas.{extends_none}
use Rattle.logos_automaton.proofs.row.known_or_target_by.Goals as goal

pub returns-in-Some-clause-extends : goal.returns-in-Some-clause-extends
returns-in-Some-clause-extends c = λ ts i h. extends_none ts c.args.steps.looks c.args.states.now.keys 1
