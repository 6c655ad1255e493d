use Rattle.std.proofs.Common.{drop}
use Rattle.logos_type_params.specs.cycles.inside.Memberships.{FollowAll}
use Rattle.logos_type_params.proofs.cycles.check.follow_all.Given as goal

-- a property of the rest holds of the whole
abbrev pub invariant-loop-to : goal.invariant-loop-to
invariant-loop-to l = FollowAll l.memberships l.membership (drop l.to-index l.targets) → FollowAll l.memberships l.membership l.targets
