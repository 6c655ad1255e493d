use Rattle.std.proofs.Common.{refl, sym, true≢false}
use Rattle.logos_type_params.proofs.cycles.SlotLemmas.{inner_step, inner_none, inner_found}
use Rattle.logos_type_params.proofs.cycles.check.has_inner.Goals as goal

pub loop-to-preserved : goal.loop-to-preserved
loop-to-preserved c = λ i. inner_step c.args.memberships.now c.args.root c.args.targets.now c.loop-to.to-index c.loop-to-test.true (λ h. true≢false (sym (c.if-has_root.ensures.1 h))) (c.loop-to.invariant i)

pub returns-then-has_root : goal.returns-then-has_root
returns-then-has_root c = (
  λ t. inner_found c.args.memberships.now c.args.root c.args.targets.now c.loop-to.to-index c.loop-to-test.true (c.if-has_root.ensures.0 refl),
  λ i. refl,
)

pub returns : goal.returns
returns c = (
  λ t. absurd (true≢false (sym t)),
  λ i. absurd (inner_none c.args.memberships.now c.args.root c.args.targets.now c.loop-to.to-index c.loop-to-test.false (c.loop-to.invariant i)),
)
