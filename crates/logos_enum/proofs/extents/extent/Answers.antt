use Rattle.logos_enum.proofs.extents.extent.Goals as goal

pub returns : goal.returns
returns c = rw (c.before-2.ensures c.skip_extent.ensures.front, ← c.skip_extent.ensures.value) c.skip_extent.ensures.front.is
