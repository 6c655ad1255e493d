use Rattle.std.proofs.Common.{◌≡◌, ◌++◌, drop}
use Rattle.logos_tables.specs.Layout.{spread}
use Rattle.logos_tables.proofs.runs.runs_of.Given as goal

abbrev pub invariant-loop-number : goal.invariant-loop-number
invariant-loop-number l = spread l.runs.items ++ drop l.number-index l.numbers ≡ l.numbers
