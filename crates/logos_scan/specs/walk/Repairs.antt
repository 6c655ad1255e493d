-- The views of a repair in contracts.
use Rattle.std.specs.Prelude.{ℕ, ◌≤◌, List, length}
use Rattle.logos_scan.specs.declared.walk.repair.Stretch.{Stretch}
use Rattle.logos_scan.specs.declared.walk.repair.Repaired.{Repaired}
use Rattle.logos_scan.specs.walk.Walk.{IsRowStart, IsSameBeside, Walked}

-- The trace contains the walk of the stretch.
pub record HoldsStretch (rows text trace : List ℕ) (stretch : Stretch) : Type 0 where
  pub order : stretch.from ≤ stretch.to
  pub in_text : stretch.to ≤ length text
  pub in_trace : stretch.to ≤ length trace
  pub walked : Walked rows text stretch.begin trace stretch.from stretch.to stretch.end
  pub stays : IsRowStart rows stretch.end

-- The trace contains a walk over the same bytes from another row, and only the entries up to the
-- stop differ.
pub record IsRepaired (rows text : List ℕ) (row_start : ℕ) (stretch : Stretch) (old new : List ℕ) (repaired : Repaired) : Type 0 where
  pub walked : Walked rows text row_start new stretch.from stretch.to repaired.row_start
  pub stays : IsRowStart rows repaired.row_start
  pub after : stretch.from ≤ repaired.stop
  pub within : repaired.stop ≤ stretch.to
  pub beside : IsSameBeside stretch.from repaired.stop old new
