use Rattle.std.proofs.Common.{◌≡◌, vec_len, slice_index}
use Rattle.logos_reduce.specs.Merge.{IsSound}
use Rattle.logos_reduce.specs.inside.Count.{pairs_together}
use Rattle.logos_reduce.specs.Table.{size}
use Rattle.logos_reduce.proofs.merge.merge_classes.Given as goal

abbrev pub invariant-loop-blocks : goal.invariant-loop-blocks
invariant-loop-blocks l = (vec_len l.blocks.of ≡ size l.table) × IsSound l.table l.blocks.splits.items (slice_index l.blocks.of.items)

abbrev pub decreases-loop-blocks : goal.decreases-loop-blocks
decreases-loop-blocks l = pairs_together (size l.table) (slice_index l.blocks.of.items)
