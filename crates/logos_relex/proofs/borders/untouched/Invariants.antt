use Rattle.std.proofs.Common.{◌≤◌, ◌-◌, length, take}
use Rattle.logos_relex.specs.Chunks.{LookBelow}
use Rattle.logos_relex.specs.inside.Anews.{IsBorder}
use Rattle.logos_relex.proofs.borders.untouched.Given as goal

abbrev pub invariant-loop-border : goal.invariant-loop-border
invariant-loop-border l = record {
  border : IsBorder l.chunks l.border;
  fits : l.border.at ≤ l.limit;
  below : LookBelow l.limit (take l.border.index l.chunks);
}

abbrev pub decreases-loop-border : goal.decreases-loop-border
decreases-loop-border l = length l.chunks - l.border.index
