use Rattle.std.proofs.Common.{◌≡◌, ◌++◌, map, drop}
use Rattle.logos_tables.proofs.runs.lengths_of.Given as goal

abbrev pub invariant-loop-run : goal.invariant-loop-run
invariant-loop-run l = l.lengths.items ++ map (λ run. run.0) (drop l.run-index l.runs) ≡ map (λ run. run.0) l.runs
