-- The faults of a refusal.
use Rattle.std.specs.Prelude.{List}
use Rattle.logos_token.specs.Faults.{Fault}
use Rattle.logos_parser.specs.declared.refusal.Refusal.{Refusal}
use Rattle.logos_parser.specs.declared.refusal.Refusal.TheVariants as refusals

-- The refusal has faults that satisfy `Hold`, or memory ran out.
abbrev pub Refuses : (List Fault → Type 0) → Refusal → Type 0
Refuses Hold (refusals.Errors faults) = Hold faults
Refuses Hold refusals.Memory = Unit {0}

-- Memory ran out, so the source is not refused for its faults.
abbrev pub IsMemory : Refusal → Type 0
IsMemory (refusals.Errors faults) = ⊥
IsMemory refusals.Memory = Unit {0}
