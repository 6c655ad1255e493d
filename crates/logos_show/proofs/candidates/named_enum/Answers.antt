use Rattle.logos_show.proofs.candidates.named_enum.Goals as goal

pub returns : goal.returns
returns c = record { candidates = c.in_ok-candidates.candidates.items; are = c.in_ok-candidates.ensures; is = rw c.deref.ensures.value at c.selected.ensures }
