use Rattle.std.proofs.Common.{◌≤◌, ◌-◌, length}
use Rattle.logos_relex.specs.inside.Anews.{IsBorder}
use Rattle.logos_relex.proofs.borders.border_from.Given as goal

abbrev pub invariant-loop-border : goal.invariant-loop-border
invariant-loop-border l = record {
  border : IsBorder l.chunks l.border;
  later : l.fn.from.index ≤ l.border.index;
}

abbrev pub decreases-loop-border : goal.decreases-loop-border
decreases-loop-border l = length l.chunks - l.border.index
