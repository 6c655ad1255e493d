use Rattle.logos_answers.proofs.examples.loss_of.Goals as goal

pub returns-in-None : goal.returns-in-None
returns-in-None c = λ of_leaves faultless. rw c.in-None.is at (c.in_ok-input.ensures of_leaves faultless)
