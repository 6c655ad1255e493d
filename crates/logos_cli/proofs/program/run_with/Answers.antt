use Rattle.std.proofs.Common.{◌++◌, IsTrue, List, ℕ}
use Rattle.std.specs.Io.KnownBytes.{Appends}
use Rattle.logos_cli.specs.Runs.{IsDenied}
use Rattle.logos_cli.proofs.RunLemmas.{shown_only}
use Rattle.logos_cli.proofs.program.run_with.Goals as goal

pub returns-in-Ok-clause-apart : goal.returns-in-Ok-clause-apart
returns-in-Ok-clause-apart g c = rw c.in-Ok.is (rw c.as_slice.ensures.value at c.run.ensures.apart)

pub returns-in-Ok-clause-denied : goal.returns-in-Ok-clause-denied
returns-in-Ok-clause-denied g c =
    rw c.in-Ok.is
    (λ s. shown_only (λ order shown. IsDenied g.F.Files.read_yields g.F.Files.write_makes g.F.ComparableFiles.compare_finds order c.args.files.now c.run.new.files shown)
    (λ order shown. IsTrue c.run.result.is_written → (front : List ℕ) × Appends (g.E.Write.contents c.args.err.now) (g.E.Write.contents c.run.new.err) (front ++ shown)) _ ((rw c.as_slice.ensures.value at c.run.ensures.denied) s))

pub returns-in-Ok-clause-touched : goal.returns-in-Ok-clause-touched
returns-in-Ok-clause-touched g c = rw c.in-Ok.is (rw c.as_slice.ensures.value at c.run.ensures.touched)
