use Rattle.logos_enum.specs.AttributeValues.{attribute_value}
use Rattle.logos_warnings.specs.Shown.{IsAboutIgnored}
use Rattle.logos_warnings.proofs.ShownLemmas.{adds_none}
use Rattle.logos_warnings.proofs.other_attributes.add_attribute.Goals as goal

pub returns-in_default : goal.returns-in_default
returns-in_default c = adds_none (IsAboutIgnored (attribute_value c.args.attribute)) _
