use Rattle.std.proofs.Common.{◌≡◌, ◌++◌, drop}
use Rattle.logos_hir.specs.Hir.{pairs}
use Rattle.logos_hir.proofs.property.ranges_of.Given as goal

abbrev pub invariant-loop-first : goal.invariant-loop-first
invariant-loop-first l = pairs l.ranges.items ++ drop l.first-index l.runs ≡ l.runs
