use Rattle.std.proofs.Common.{◌≡◌, nat_lt, drop}
use Rattle.std.specs.List.{list_all}
use Rattle.logos_hir.specs.Hir.{pairs}
use Rattle.logos_hir.proofs.measures.are_ascii.Given as goal

abbrev pub invariant-loop-range : goal.invariant-loop-range
invariant-loop-range l = list_all (λ r. nat_lt r.1 128) (pairs (drop l.range-index l.ranges)) ≡ list_all (λ r. nat_lt r.1 128) (pairs l.ranges)
