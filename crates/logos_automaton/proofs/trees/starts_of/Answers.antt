use Rattle.logos_positions.proofs.steps.SeveralLemmas.{next_measured}
use Rattle.logos_automaton.proofs.trees.starts_of.Goals as goal

pub width-base-requires-clause-measured : goal.width-base-requires-clause-measured
width-base-requires-clause-measured c = next_measured c.args.nodes.now c.loop-number.number c.index-nodes-number.result c.loop-number-test.true c.index-nodes-number.is c.requires.measured
