use Rattle.logos_causes.proofs.explanation.clues_of_analysis.Goals as goal

pub returns : goal.returns
returns c = rw c.leaves_of.ensures at c.clues_of_leaves.ensures
