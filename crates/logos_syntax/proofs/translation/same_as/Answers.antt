use Rattle.std.proofs.Common.{IfOk, ◌≡◌, subst}
use Rattle.logos_hir.specs.Sets.{Set}
use Rattle.logos_hir.specs.RangeSets.{set_of}
use Rattle.logos_syntax.specs.bracket.Meaning.{case_closure}
use Rattle.logos_syntax.proofs.translation.same_as.Goals as goal

pub returns : goal.returns
returns c = subst (λ (s : Set). IfOk c.case_closure.result (λ set. set_of set ≡ case_closure c.args.flags s)) c.in_ok-only.ensures c.case_closure.ensures
