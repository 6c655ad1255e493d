use Rattle.std.proofs.Common.{refl, ◌∙◌}
use Rattle.logos_hir.proofs.MeasureLemmas.{same_pairs}
use Rattle.logos_hir.specs.contracts.hir.RangePartialEq.TheImpl.{eq-value}
use Rattle.logos_hir.proofs.measures.same.Goals as goal

pub returns : goal.returns
returns c = c.eq.ensures ∙ same_pairs eq-value.it (λ a b. refl) c.args.a.now c.args.b.now
