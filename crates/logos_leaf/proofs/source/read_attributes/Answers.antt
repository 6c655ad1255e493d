use Rattle.logos_leaf.specs.Sources.{no_attribute, one_attribute}
use Rattle.logos_leaf.proofs.source.read_attributes.Goals as goal

pub loop-attribute-preserved : goal.loop-attribute-preserved
loop-attribute-preserved c = λ o new rest. c.loop-attribute.invariant o new (one_attribute c.in-Some.ensures.0 c.in_ok-try_parse_logos.ensures.ok rest)

pub returns : goal.returns
returns c = c.loop-attribute.invariant _ _ (no_attribute c.in_default.ensures)
