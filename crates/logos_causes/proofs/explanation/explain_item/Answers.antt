use Rattle.logos_causes.proofs.explanation.explain_item.Goals as goal

pub returns : goal.returns
returns c = c.in_ok-clues.ensures
