use Rattle.std.proofs.Common.{◌≡◌, ◌++◌, map, drop}
use Rattle.logos_tables.proofs.runs.steps_in.Given as goal

abbrev pub invariant-loop-run : goal.invariant-loop-run
invariant-loop-run l = l.steps.items ++ map (λ run. run.1) (drop l.run-index l.runs) ≡ map (λ run. run.1) l.runs
