use Rattle.std.proofs.Common.{refl, sym, ◌∙◌}
use Rattle.logos_type_params.specs.cycles.inside.Memberships.{graph}
use Rattle.logos_type_params.proofs.cycles.ListLemmas.{read_at, targets_read}
use Rattle.logos_type_params.proofs.cycles.SlotLemmas.{placed_here}
use Rattle.logos_type_params.proofs.cycles.check.is_placed.Goals as goal

pub returns : goal.returns
returns c = λ t membership is.
    let here = read_at c.args.memberships.now c.args.node c.in-Some.membership c.in-Some.ensures.lookup in
    let list = read_at c.args.lists.now c.args.node c.in-Some-get.list c.in-Some-get.ensures.lookup in
    placed_here (graph c.args.lists.now) c.args.memberships.now c.args.node c.in-Some.membership.now membership here is (c.if-not-goes_toward.ensures refl) (c.if-not-comes_from.ensures refl)
    c.deref.result.now (c.deref.ensures.value ∙ sym (targets_read c.args.lists.now c.args.node c.in-Some-get.list.now list)) (c.follow_all.ensures t)
