use Rattle.logos_rust_file.proofs.CutLemmas.{text_cut}
use Rattle.logos_rust_file.proofs.OrderLemmas.{text_order}
use Rattle.logos_rust_file.proofs.finder.read_file.Goals as goal

pub returns-in-Ok-enums_of-clause-in_order : goal.returns-in-Ok-enums_of-clause-in_order
returns-in-Ok-enums_of-clause-in_order c = text_order c.args.text.now _ _ c.in-Ok.ensures.ok (rw c.run.ensures at c.in-Ok-enums_of.ensures)

pub returns-in-Ok-enums_of-clause-cut : goal.returns-in-Ok-enums_of-clause-cut
returns-in-Ok-enums_of-clause-cut c = text_cut c.args.text.now _ _ c.utf8.text c.in-Ok.ensures.ok (rw c.run.ensures at c.in-Ok-enums_of.ensures)
