use Rattle.std.proofs.Common.{◌≡◌, IfOk, ap₂, subst, ◌∙◌}
use Rattle.logos_hir.specs.Sets.{Set, union}
use Rattle.logos_hir.specs.RangeSets.{set_of}
use Rattle.logos_hir.proofs.lemmas.OperandLemmas.{chosen_by_parts}
use Rattle.logos_hir.proofs.sets.operands.selection.Goals as goal

pub returns : goal.returns
returns c =
    let same = ap₂ union c.in_ok-intersection.ensures c.in_ok-difference.ensures
    ∙ chosen_by_parts (set_of c.args.test.now) (set_of c.args.inside.now) (set_of c.args.outside.now) in
    subst (λ (s : Set). IfOk c.union.result (λ set. set_of set ≡ s)) same c.union.ensures
