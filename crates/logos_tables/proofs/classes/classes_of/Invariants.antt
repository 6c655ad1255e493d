use Rattle.logos_tables.specs.Layout.{Classify}
use Rattle.logos_tables.proofs.classes.classes_of.Given as goal

abbrev pub invariant-loop-symbol : goal.invariant-loop-symbol
invariant-loop-symbol l = Classify l.rows l.classes.numbers.items l.classes.symbols.items l.symbol
