use Rattle.std.proofs.Common.{◌<◌, ◌≤◌, ◌-◌, slice_index}
use Rattle.logos_reduce.specs.Rows.{HasOnly}
use Rattle.logos_reduce.proofs.rows.past_groups.Given as goal

abbrev pub invariant-loop-end : goal.invariant-loop-end
invariant-loop-end l = (l.start < l.end) × (l.end ≤ 257) × HasOnly l.row l.start l.end (slice_index l.row l.start)

abbrev pub decreases-loop-end : goal.decreases-loop-end
decreases-loop-end l = 257 - l.end
