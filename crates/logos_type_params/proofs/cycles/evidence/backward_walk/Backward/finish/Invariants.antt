use Rattle.std.proofs.Common.{◌-◌, ◌^◌}
use Rattle.logos_type_params.proofs.cycles.evidence.backward_walk.Backward.finish.Given as goal

abbrev pub decreases-loop-node : goal.decreases-loop-node
decreases-loop-node l = 2 ^ 64 - l.at
