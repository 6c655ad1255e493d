use Rattle.std.proofs.Common.{◌≡◌, drop, map}
use Rattle.logos_cli.specs.Runs.{has_twins}
use Rattle.logos_cli.specs.inside.BatchFiles.{output_text}
use Rattle.logos_cli.proofs.batch.twin_in.Given as goal

-- The results that are left decide.
abbrev pub invariant-loop-number : goal.invariant-loop-number
invariant-loop-number l = has_twins (map output_text (drop l.number l.batch_files)) ≡ has_twins (map output_text l.batch_files)
