use Rattle.std.proofs.Common.{◌≡◌, IfOk, ap₂, subst, ◌∙◌}
use Rattle.logos_hir.specs.Sets.{Set, union}
use Rattle.logos_hir.specs.RangeSets.{set_of}
use Rattle.logos_hir.proofs.lemmas.RangeLemmas.{symmetric_by_differences}
use Rattle.logos_hir.proofs.sets.RangeSet.symmetric_difference.Goals as goal

pub returns : goal.returns
returns c =
    let same = ap₂ union c.in_ok-difference.ensures c.in_ok-difference-2.ensures ∙ symmetric_by_differences (set_of c.args.self.now) (set_of c.args.other.now) in
    subst (λ (s : Set). IfOk c.union.result (λ set. set_of set ≡ s)) same c.union.ensures
