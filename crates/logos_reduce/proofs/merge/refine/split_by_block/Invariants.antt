use Rattle.std.proofs.Common.{◌≡◌, ◌-◌, ◌≤◌, ◌<◌, vec_len, slice_index}
use Rattle.logos_reduce.specs.Merge.{target_block}
use Rattle.logos_reduce.specs.inside.Refinements.{IsSoundRefinement, IsFinerRefinement, steps_left}
use Rattle.logos_reduce.specs.inside.Lists.{AreSources}
use Rattle.logos_reduce.specs.Table.{size}
use Rattle.logos_reduce.proofs.merge.refine.split_by_block.Given as goal

abbrev pub invariant-loop-k : goal.invariant-loop-k
invariant-loop-k l =
    (vec_len l.split.filing.blocks ≡ size l.table) × (vec_len l.split.filing.lists ≡ vec_len l.initial.split.filing.lists)
    × (l.by.block < vec_len l.split.cuts.splits)
    × (steps_left l.split ≤ steps_left l.initial.split)
    × AreSources (size l.table) (target_block l.table (slice_index l.split.filing.blocks.items)) l.by.sources.items l.by.block
    × IsSoundRefinement l.table l.split
    × IsFinerRefinement l.table l.split l.initial.split

abbrev pub decreases-loop-k : goal.decreases-loop-k
decreases-loop-k l = 257 - l.k
