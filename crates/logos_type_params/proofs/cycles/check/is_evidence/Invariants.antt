use Rattle.std.proofs.Common.{◌≡◌, ◌<◌, ℕ, Some}
use Rattle.std.specs.List.{slice_get}
use Rattle.logos_type_params.specs.declared.cycles.evidence.Membership.{Membership}
use Rattle.logos_type_params.specs.cycles.inside.Memberships.{graph, IsPlaced}
use Rattle.logos_type_params.proofs.cycles.check.is_evidence.Given as goal

abbrev pub invariant-loop-node : goal.invariant-loop-node
invariant-loop-node l = (node : ℕ) → node < l.node → (membership : Membership) → slice_get l.memberships node ≡ Some membership → IsPlaced (graph l.lists) l.memberships node membership
