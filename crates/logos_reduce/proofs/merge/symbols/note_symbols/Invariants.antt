use Rattle.std.proofs.Common.{◌-◌, ◌≤◌}
use Rattle.logos_reduce.proofs.merge.symbols.note_symbols.Given as goal

abbrev pub invariant-loop-k : goal.invariant-loop-k
invariant-loop-k l = l.k ≤ 257

abbrev pub decreases-loop-k : goal.decreases-loop-k
decreases-loop-k l = 257 - l.k
