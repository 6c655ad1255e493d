-- The list of faults that a value of type `Errors` represents.
use Rattle.std.specs.Prelude.{List, map, string_bytes}
use Rattle.logos_token.specs.declared.error.SpannedError.{SpannedError}
use Rattle.logos_token.specs.Faults.{Fault}

-- The fault that an entry of the list represents.
abbrev pub fault_of : SpannedError → Fault
fault_of e = record { code = e.code; message = string_bytes e.message; span = e.span; also = e.also; detail = e.detail }

-- The faults of a list.
abbrev pub faults_of : List SpannedError → List Fault
faults_of errors = map fault_of errors
