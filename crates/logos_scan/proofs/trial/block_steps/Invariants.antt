use Rattle.logos_scan.specs.walk.Walk.{IsRowStart}
use Rattle.logos_scan.proofs.trial.block_steps.Given as goal

abbrev pub invariant-loop-at : goal.invariant-loop-at
invariant-loop-at l = IsRowStart l.rows l.now
