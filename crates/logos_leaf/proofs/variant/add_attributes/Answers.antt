use Rattle.logos_leaf.specs.Variants.{no_attribute, one_attribute}
use Rattle.logos_leaf.proofs.variant.add_attributes.Goals as goal

pub loop-attribute-preserved : goal.loop-attribute-preserved
loop-attribute-preserved c = record {
  unchanged = rw c.loop-attribute.invariant.unchanged at c.in_ok-leaf.ensures.unchanged;
  completes = λ after new rest. c.loop-attribute.invariant.completes after new (one_attribute c.in-Some.ensures.0 c.in_ok-leaf.ensures.given (rw c.in_ok-push_leaf.ensures at rest));
}

pub returns-clause-given : goal.returns-clause-given
returns-clause-given c = c.loop-attribute.invariant.completes _ _ (no_attribute c.in_default.ensures)
