use Rattle.logos_attribute.proofs.nested.name_at.Goals as goal

pub returns-in-None : goal.returns-in-None
returns-in-None c = rw c.in-None.ensures (c.unnamed_at.ensures _ _ (rw c.in-None.ensures at c.requires))
