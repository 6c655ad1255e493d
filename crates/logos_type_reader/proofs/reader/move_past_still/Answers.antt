use Rattle.logos_type.proofs.PartTrees.{tree-Still}
use Rattle.logos_type_reader.proofs.reader.move_past_still.Goals as goal

pub returns-in-Ok : goal.returns-in-Ok
returns-in-Ok c = λ levels spot m. c.move_past.ensures levels spot (rw (tree-Still c.in-Ok.inner, c.in-Ok.ensures) m)
