use Rattle.std.proofs.Common.{All, drop, false}
use Rattle.logos_cli.specs.inside.BatchFiles.{output_text}
use Rattle.logos_cli.proofs.batch.own_output_in.Given as goal

-- The results that are left decide.
abbrev pub invariant-loop-batch_file : goal.invariant-loop-batch_file
invariant-loop-batch_file g l =
    All (λ one. All (λ other. g.F.ComparableFiles.same_finds l.files other.input.now (output_text one) false) l.batch_files) (drop l.batch_file-index l.batch_files)
    → All (λ one. All (λ other. g.F.ComparableFiles.same_finds l.files other.input.now (output_text one) false) l.batch_files) l.batch_files
