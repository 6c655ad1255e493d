use Rattle.std.proofs.Common.{◌≡◌, ⊎_elim, ℕ, refl, sym, subst, ◌∙◌, ◌<◌, arith, Some}
use Rattle.std.proofs.lemmas.List.{length-map}
use Rattle.std.proofs.lemmas.Option.{slice_get_within}
use Rattle.std.specs.List.{slice_get}
use Rattle.logos_type_params.specs.cycles.inside.Memberships.{graph, IsPlaced}
use Rattle.logos_type_params.proofs.cycles.MarkLemmas.{before_or_at}
use Rattle.logos_type_params.proofs.cycles.check.is_evidence.Goals as goal

pub loop-node-preserved : goal.loop-node-preserved
loop-node-preserved c = λ node lt membership is. ⊎_elim
    (λ (l : node < c.loop-node.node). c.loop-node.invariant node l membership is)
    (λ (e : node ≡ c.loop-node.node). subst (λ (n : ℕ). slice_get c.args.memberships.now n ≡ Some membership → IsPlaced (graph c.args.lists.now) c.args.memberships.now n membership) (sym e) (c.if-not-is_placed.ensures refl membership) is)
    (before_or_at node c.loop-node.node lt)

pub returns : goal.returns
returns c = λ t. record {
  same_length = let l = length-map c.args.lists.now (λ v. v.items) in sym c.if-lists-memberships.false ∙ sym l;
  placed = λ node membership is. c.loop-node.invariant node (let w = slice_get_within c.args.memberships.now node membership is in omega (arith, w)) membership is;
}
