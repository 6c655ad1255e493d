-- The codes of errors, of ambiguities, and of faults that patterns explain.
use Rattle.std.specs.Prelude.{Bool, true, false}
use Rattle.logos_token.specs.declared.error.fault_code.FaultCode.{FaultCode}
use Rattle.logos_token.specs.declared.error.fault_code.FaultCode.TheVariants.{Disambiguation, NoUniversalStart, Previous}

-- Whether a fault is an error: `Previous` is an earlier definition, to which an error refers.
abbrev pub is_error : FaultCode → Bool
is_error Previous = false
is_error code = true

-- Whether a fault is of an ambiguous leaf. Each leaf of an ambiguous set has such a fault.
abbrev pub is_ambiguity : FaultCode → Bool
is_ambiguity Disambiguation = true
is_ambiguity code = false

-- Whether patterns explain a fault: those that can examine the bytes before their start.
abbrev pub is_explained : FaultCode → Bool
is_explained NoUniversalStart = true
is_explained code = false
