-- The contracts of the functions that replace parameters.
use Rattle.logos_type_reader.specs.declared.reader.TypeFault.{TypeFault}
use Rattle.logos_type_reader.specs.declared.reader.TypeFault.TheVariants as faults

-- The limit on nesting was exceeded, and `Holds` holds; or memory ran out.
abbrev pub IfDeep : Type 0 → TypeFault → Type 0
IfDeep Holds faults.LimitNesting = Holds
IfDeep Holds faults.Memory = Unit {0}
IfDeep Holds (faults.Unsupported span) = ⊥
IfDeep Holds (faults.Mismatch span) = ⊥
