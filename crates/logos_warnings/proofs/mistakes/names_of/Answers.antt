use Rattle.logos_warnings.proofs.mistakes.names_of.Goals as goal

pub returns : goal.returns
returns c = rw c.new-warnings.ensures.items at c.in_ok-report_names.ensures
