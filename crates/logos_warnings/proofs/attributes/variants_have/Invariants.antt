use Rattle.std.proofs.Common.{◌↔◌, map, length}
use Rattle.logos_enum.specs.EnumValues.{variant_value}
use Rattle.logos_warnings.specs.Mistakes.{VariantsHave}
use Rattle.logos_warnings.proofs.attributes.variants_have.Given as goal

-- the variants have a helper attribute exactly if those that are left have one
abbrev pub invariant-loop-rest : goal.invariant-loop-rest
invariant-loop-rest l = VariantsHave (map variant_value l.variants) ↔ VariantsHave (map variant_value l.rest)

abbrev pub decreases-loop-rest : goal.decreases-loop-rest
decreases-loop-rest l = length l.rest
