use Rattle.logos_layout.proofs.ConditionLemmas.{conditions_end, conditions_next}
use Rattle.logos_layout.proofs.conditions.push_conditions.Goals as goal

pub loop-attribute-preserved : goal.loop-attribute-preserved
loop-attribute-preserved c = conditions_next _ _ _ _ _ c.in-Some.ensures.0 c.in_ok-push_condition.ensures c.loop-attribute.invariant

pub returns : goal.returns
returns c = conditions_end _ _ _ c.in_default.ensures c.loop-attribute.invariant
