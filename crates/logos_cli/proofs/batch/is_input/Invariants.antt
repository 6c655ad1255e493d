use Rattle.std.proofs.Common.{All, drop, false}
use Rattle.logos_cli.proofs.batch.is_input.Given as goal

-- The files that are left decide.
abbrev pub invariant-loop-batch_file : goal.invariant-loop-batch_file
invariant-loop-batch_file g l =
    All (λ other. g.F.ComparableFiles.same_finds l.files other.input.now l.path false) (drop l.batch_file-index l.batch_files) → All (λ other. g.F.ComparableFiles.same_finds l.files other.input.now l.path false) l.batch_files
