use Rattle.std.proofs.Common.{List, map, length}
use Rattle.logos_enum.specs.EnumValues.{variant_value}
use Rattle.logos_warnings.specs.Mistakes.{MistakeValue, VariantsAdd, mistake_value}
use Rattle.logos_warnings.proofs.mistakes.report_variants.Given as goal

-- the warnings of the remaining variants complete the warnings of all
abbrev pub invariant-loop-rest : goal.invariant-loop-rest
invariant-loop-rest l = (after : List MistakeValue) → VariantsAdd (map variant_value l.rest) (map mistake_value l.warnings.items) after →
    VariantsAdd (map variant_value l.variants) (map mistake_value l.initial.warnings.items) after

abbrev pub decreases-loop-rest : goal.decreases-loop-rest
decreases-loop-rest l = length l.rest
