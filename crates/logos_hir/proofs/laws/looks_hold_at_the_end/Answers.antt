use Rattle.logos_hir.proofs.tree.Laws.{held_at_end}
use Rattle.logos_hir.proofs.laws.looks_hold_at_the_end.Goals as goal

pub returns : goal.returns
returns c = held_at_end
