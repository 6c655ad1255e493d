use Rattle.std.proofs.Common.{◌≡◌, ◌+◌, ◌≤◌, ◌^◌, ◌<◌, decimal, length}
use Rattle.logos_page.proofs.page.digits.Given as goal

abbrev pub invariant-loop-rest : goal.invariant-loop-rest
invariant-loop-rest l = record { counted : l.count + length (decimal l.rest) ≡ length (decimal l.number) + 1; least : 1 ≤ l.count; small : l.rest < 2 ^ 64 }

abbrev pub decreases-loop-rest : goal.decreases-loop-rest
decreases-loop-rest l = l.rest
