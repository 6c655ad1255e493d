use Rattle.std.proofs.Common.{◌<◌, ◌-◌, length}
use Rattle.logos_relex.proofs.chunk.next_chunk.Given as goal

abbrev pub invariant-loop-size : goal.invariant-loop-size
invariant-loop-size g l = 0 < l.size

abbrev pub decreases-loop-size : goal.decreases-loop-size
decreases-loop-size g l = length l.bytes - l.size
