use Rattle.logos_show.proofs.ChoiceLemmas.{one_taken, several_refused, several_taken}
use Rattle.logos_show.proofs.choice.lexer_in.Goals as goal

pub returns-in-One-clause-chosen : goal.returns-in-One-clause-chosen
returns-in-One-clause-chosen g c = one_taken _ _ _ (rw c.in-One.is at c.in_ok-one.ensures.chosen)

pub returns-in-Several-clause-chosen : goal.returns-in-Several-clause-chosen
returns-in-Several-clause-chosen g c = several_taken _ _ _ _ c.one_of.result (rw c.in-Several.is at c.in_ok-one.ensures.chosen) c.one_of.ensures.first

pub returns-in-Several-clause-refused : goal.returns-in-Several-clause-refused
returns-in-Several-clause-refused g c = several_refused _ _ _ _ c.one_of.result (rw c.in-Several.is at c.in_ok-one.ensures.chosen) c.one_of.ensures.refused
