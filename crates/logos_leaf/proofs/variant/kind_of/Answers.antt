use Rattle.std.proofs.Common.{refl}
use Rattle.logos_leaf.specs.Variants.{no_field, with_names}
use Rattle.logos_leaf.proofs.variant.kind_of.Goals as goal

pub returns-in-Unit : goal.returns-in-Unit
returns-in-Unit c = rw c.in-Unit.is (no_field refl)

pub returns-in_ok-report_named_fields-in-Named : goal.returns-in_ok-report_named_fields-in-Named
returns-in_ok-report_named_fields-in-Named c = rw c.in-Named.is (with_names c.in_ok-report_named_fields-in-Named.ensures)
