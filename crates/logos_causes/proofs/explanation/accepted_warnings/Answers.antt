use Rattle.logos_causes.proofs.explanation.accepted_warnings.Goals as goal

pub returns : goal.returns
returns c = record { front = _; of_tokens = c.in_ok-warnings.ensures; others = c.in_ok-add_of_lexer.ensures }
