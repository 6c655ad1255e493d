use Rattle.std.proofs.Common.{◌≡◌, ◌≤◌, ◌^◌, ◌+◌, ◌-◌, drop, min}
use Rattle.logos_expand.specs.Gathering.{errors_in}
use Rattle.logos_expand.proofs.expansion.count_refused.Given as goal

abbrev pub invariant-loop-one : goal.invariant-loop-one
invariant-loop-one l = record {
  few : l.count ≤ 2 ^ 64 - 1;
  all : min (l.count + errors_in (drop l.one-index l.refused)) (2 ^ 64 - 1) ≡ min (errors_in l.refused) (2 ^ 64 - 1);
}
