use Rattle.std.proofs.Common.{ap, sym, subst, ◌∙◌, arith, Vec, Global, List, ℕ}
use Rattle.logos_reduce.specs.Lists.{has_in, AreRising}
use Rattle.logos_reduce.proofs.listings.ListLemmas.{has_in-push_empty}
use Rattle.logos_reduce.proofs.listings.RisingLemmas.{rising-push_empty}
use Rattle.logos_reduce.proofs.lists.empty_lists.Goals as goal

pub loop-i-preserved : goal.loop-i-preserved
loop-i-preserved c = (
  omega (arith, c.in_ok-push.ensures.len),
  λ b s h. c.loop-i.invariant.1 b s
      (has_in-push_empty c.loop-i.lists.items c.new.result b s c.new.ensures.items (ap (λ (xs : List (Vec ℕ Global)). has_in xs b s) (sym c.in_ok-push.ensures.items) ∙ h)),
  subst (AreRising 0) (sym c.in_ok-push.ensures.items) (rising-push_empty c.loop-i.lists.items c.new.result c.new.ensures.items c.loop-i.invariant.2),
)
