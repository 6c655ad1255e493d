use Rattle.std.proofs.Common.{◌≡◌, drop, map}
use Rattle.logos_cli.specs.Runs.{is_among}
use Rattle.logos_cli.specs.inside.BatchFiles.{output_text}
use Rattle.logos_cli.proofs.batch.is_output.Given as goal

-- The results that are left decide.
abbrev pub invariant-loop-batch_file : goal.invariant-loop-batch_file
invariant-loop-batch_file l = is_among l.path (map output_text (drop l.batch_file-index l.batch_files)) ≡ is_among l.path (map output_text l.batch_files)
