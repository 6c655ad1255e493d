-- Reports: values together with the faults that were reported while the values were read.
pub use Rattle.logos_type_params.specs.TypeParams.{fault, fault_with}
use Rattle.std.specs.Prelude.{◌≡◌, ℕ, List, [], ◌∷◌, ◌++◌, Some}
use Rattle.logos_lexeme.specs.declared.lexeme.Span.{Span}
use Rattle.logos_token.specs.declared.error.fault_code.FaultCode.{FaultCode}
use Rattle.logos_token.specs.declared.error.detail.Detail.TheVariants.{Plain}
use Rattle.logos_token.specs.Faults.{Fault}
use Rattle.logos_attribute.specs.Slices.{Slice}

-- A value, and the faults that were reported while it was read, in order.
pub record Report (A : Type 0) : Type 0 where
  pub value : A
  pub faults : List Fault

-- A report with this value and these faults.
abbrev pub with_faults : {A : Type 0} → A → List Fault → Report A
with_faults value faults = record { value = value; faults = faults }

-- A report without a fault.
abbrev pub without_faults : {A : Type 0} → A → Report A
without_faults value = with_faults value []

-- The report of `next` for the value of a report, with the faults of both in order.
abbrev pub and_then : {A B : Type 0} → Report A → (A → Report B) → Report B
and_then report next = with_faults (next report.value).value (report.faults ++ (next report.value).faults)

-- A report with the function applied to its value, and with its faults unchanged.
abbrev pub map_report : {A B : Type 0} → (A → B) → Report A → Report B
map_report f report = with_faults (f report.value) report.faults

-- A fault that is about a second span.
abbrev pub fault_also : FaultCode → List ℕ → Span → Span → Fault
fault_also code message span other = record { code = code; message = message; span = span; also = Some other; detail = Plain }

-- A fault of a name. Its message has the name between two texts.
abbrev pub fault_about : FaultCode → List ℕ → Slice → List ℕ → Fault
fault_about code before name after = fault code ((before ++ name.text) ++ after) name.span

-- A list of one fault.
abbrev pub only : Fault → List Fault
only f = f ∷ []

-- A fault was added to the list.
abbrev pub AddsFault : Fault → List Fault → List Fault → Type 0
AddsFault f old new = new ≡ old ++ only f

-- The value is the value of the report, and the faults of the report were added to the list.
abbrev pub IsReport : {A : Type 0} → Report A → A → List Fault → List Fault → Type 0
IsReport report value old new = (value ≡ report.value) × (new ≡ old ++ report.faults)
