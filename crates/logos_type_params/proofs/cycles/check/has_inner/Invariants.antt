use Rattle.std.proofs.Common.{drop}
use Rattle.logos_type_params.specs.cycles.inside.Memberships.{HasInner}
use Rattle.logos_type_params.proofs.cycles.check.has_inner.Given as goal

-- if there is one, it is in the rest
abbrev pub invariant-loop-to : goal.invariant-loop-to
invariant-loop-to l = HasInner l.memberships l.root l.targets → HasInner l.memberships l.root (drop l.to-index l.targets)
