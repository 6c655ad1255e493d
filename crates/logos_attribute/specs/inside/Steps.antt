-- Invariants that hold between the steps of a reading.
use Rattle.std.specs.Prelude.{◌≡◌, List, ◌++◌}
use Rattle.logos_token.specs.Faults.{Fault}
use Rattle.logos_attribute.specs.Reports.{Report}

-- The report of the whole is the report of the rest, preceded by the faults that were reported
-- before.
abbrev pub Completes : {A : Type 0} → Report A → List Fault → Report A → List Fault → Type 0
Completes whole old rest now = (whole.value ≡ rest.value) × (old ++ whole.faults ≡ now ++ rest.faults)
