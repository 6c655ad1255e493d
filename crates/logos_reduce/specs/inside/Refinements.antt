-- Blocks that are split by one another, before and after a step.
use Rattle.std.specs.Prelude.{ℕ, ◌+◌, ◌-◌, ◌*◌, vec_len, slice_index}
use Rattle.logos_reduce.specs.Merge.{IsSound}
use Rattle.logos_reduce.specs.Table.{size}
use Rattle.logos_reduce.specs.inside.Merge.{IsFiner}
use Rattle.logos_reduce.specs.declared.merge.twins.Refinement.{Refinement}
use Rattle.logos_reduce.specs.declared.table.Table.{Table}

-- The blocks were made by the splits, and the states of each have equal marks.
abbrev pub IsSoundRefinement : Table → Refinement → Type 0
IsSoundRefinement table parts =
    IsSound table parts.cuts.splits.items (slice_index parts.filing.blocks.items)

-- Each block of the first refinement is a block of the second, or a part of one.
abbrev pub IsFinerRefinement : Table → Refinement → Refinement → Type 0
IsFinerRefinement table fine parts = IsFiner (size table)
    (slice_index fine.filing.blocks.items) (slice_index parts.filing.blocks.items)

-- A bound on the remaining steps: two for each block that can still be made, and one for each block
-- that is still to be processed.
abbrev pub steps_left : Refinement → ℕ
steps_left parts =
    2 * (vec_len parts.filing.lists - vec_len parts.cuts.splits) + vec_len parts.cuts.hints.todo
