use Rattle.std.proofs.Common.{slice_index}
use Rattle.logos_reduce.specs.Merge.{target_block}
use Rattle.logos_reduce.specs.Table.{size}
use Rattle.logos_reduce.proofs.merging.HitLemmas.{HitsSoFar}
use Rattle.logos_reduce.proofs.merge.refine.hits_of.Given as goal

abbrev pub invariant-loop-s : goal.invariant-loop-s
invariant-loop-s l = HitsSoFar (size l.table) l.s-index (target_block l.table (slice_index l.blocks.items)) l.by.sources.items l.hits.items l.by.block l.k
