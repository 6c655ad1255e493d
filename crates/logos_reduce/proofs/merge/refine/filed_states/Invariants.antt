use Rattle.std.proofs.Common.{◌≡◌, vec_len, slice_index}
use Rattle.logos_reduce.specs.inside.Lists.{AreFiled}
use Rattle.logos_reduce.proofs.merge.refine.filed_states.Given as goal

abbrev pub invariant-loop-s : goal.invariant-loop-s
invariant-loop-s l = (vec_len l.lists ≡ l.room) × AreFiled l.s (slice_index l.blocks.items) l.lists.items
