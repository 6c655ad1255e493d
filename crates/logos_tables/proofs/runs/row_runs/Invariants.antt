use Rattle.std.proofs.Common.{◌≡◌, ◌++◌, drop}
use Rattle.std.specs.List.{flat_map}
use Rattle.logos_tables.specs.Layout.{by_classes, spread}
use Rattle.logos_tables.proofs.runs.row_runs.Given as goal

abbrev pub invariant-loop-row : goal.invariant-loop-row
invariant-loop-row l =
    spread l.runs.items ++ flat_map (by_classes l.symbols) (drop l.row-index l.rows) ≡ flat_map (by_classes l.symbols) l.rows
