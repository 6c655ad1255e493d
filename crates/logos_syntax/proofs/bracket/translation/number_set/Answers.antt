use Rattle.std.proofs.Common.{IfOk, ◌≡◌, subst}
use Rattle.logos_hir.specs.Sets.{Set}
use Rattle.logos_hir.specs.RangeSets.{set_of}
use Rattle.logos_hir.proofs.lemmas.SetLemmas.{one_member}
use Rattle.logos_syntax.proofs.bracket.translation.number_set.Goals as goal

pub returns : goal.returns
returns c = subst (λ (s : Set). IfOk c.range_set.result (λ set. set_of set ≡ s)) (one_member c.args.code) c.range_set.ensures
