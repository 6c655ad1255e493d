use Rattle.std.proofs.Common.{◌≡◌, ◌++◌, drop}
use Rattle.logos_tables.specs.Layout.{by_classes, spread}
use Rattle.logos_tables.proofs.runs.push_row.Given as goal

abbrev pub invariant-loop-symbol : goal.invariant-loop-symbol
invariant-loop-symbol l =
    spread l.runs.items ++ by_classes (drop l.symbol-index l.symbols) l.row ≡ spread l.initial.runs.items ++ by_classes l.symbols l.row
