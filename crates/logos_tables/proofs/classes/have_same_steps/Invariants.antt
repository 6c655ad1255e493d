use Rattle.std.proofs.Common.{◌≡◌, ℕ, ◌<◌, [], slice_index, slice_index_or}
use Rattle.logos_tables.proofs.classes.have_same_steps.Given as goal

-- the rows so far have the same step
abbrev pub invariant-loop-row : goal.invariant-loop-row
invariant-loop-row l =
    (i : ℕ) → i < l.row-index → slice_index (slice_index_or l.rows i []) l.one ≡ slice_index (slice_index_or l.rows i []) l.other
