use Rattle.std.proofs.Common.{map}
use Rattle.logos_enum.specs.EnumValues.{variant_value}
use Rattle.logos_warnings.specs.Shown.{AddsEach, IsIgnoredOn}
use Rattle.logos_warnings.proofs.other_attributes.add_variants.Given as goal

-- the warnings so far are about attributes of variants
abbrev pub invariant-loop-variant : goal.invariant-loop-variant
invariant-loop-variant l = AddsEach (IsIgnoredOn (map variant_value l.variants)) l.initial.warnings.items l.warnings.items
