use Rattle.std.proofs.Common.{◌∙◌, sym, length, refl, arith}
use Rattle.std.proofs.lemmas.List.{length-map}
use Rattle.std.proofs.lemmas.Option.{slice_get_read}
use Rattle.logos_type_params.specs.cycles.inside.Memberships.{graph}
use Rattle.logos_type_params.proofs.cycles.ListLemmas.{targets_read}
use Rattle.logos_type_params.proofs.cycles.MarkLemmas.{mark_is}
use Rattle.logos_type_params.proofs.cycles.check.mark.Goals as goal

pub returns : goal.returns
returns c =
    let lists = c.args.lists.now in
    let list = c.index-lists-node.result in
    let is = slice_get_read lists (length lists) c.args.node list refl c.requires.within c.index-lists-node.is in
    let targets = c.deref.ensures.value ∙ sym (targets_read lists c.args.node list is) in
    mark_is (graph lists) c.args.memberships.now c.requires.evidence c.args.node (record { root = 0; order = 0; toward = 0; to_rank = 0; from = 0; edge = 0; from_rank = 0 })
    (let s = c.requires.evidence.same_length in let l = length-map lists (λ v. v.items) in let w = c.requires.within in omega (arith, s, l, w))
    c.deref.result.now targets c.has_inner.result c.has_inner.ensures
