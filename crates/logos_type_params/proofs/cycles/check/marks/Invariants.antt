use Rattle.std.proofs.Common.{◌≡◌, vec_len}
use Rattle.logos_type_params.specs.cycles.inside.Memberships.{graph}
use Rattle.logos_type_params.proofs.cycles.MarkLemmas.{AreMarked}
use Rattle.logos_type_params.proofs.cycles.check.marks.Given as goal

abbrev pub invariant-loop-node : goal.invariant-loop-node
invariant-loop-node l = (vec_len l.marks ≡ l.node) × AreMarked (graph l.lists) l.marks.items l.node
