use Rattle.logos_commands.proofs.RunLemmas.{carried, only_read, touched_by}
use Rattle.logos_commands.specs.Runs.{IsLeft}
use Rattle.logos_commands.proofs.program.run_strip.Goals as goal

pub returns-in-Ok-clause-done : goal.returns-in-Ok-clause-done
returns-in-Ok-clause-done g c =
    λ s. carried g.F.Files.read_yields g.F.Files.write_makes _ _ _ _ _ _ _ IsLeft c.in-Ok.ensures.done (c.run_outcome.ensures.done s)

pub returns-in-Ok-clause-touched : goal.returns-in-Ok-clause-touched
returns-in-Ok-clause-touched g c =
    touched_by g.F.Files.read_yields g.F.Files.read_ends g.F.Files.write_ends _ _ _ _ _ IsLeft c.stripped.ensures.ends c.in-Ok.ensures.done c.run_outcome.ensures.touched

pub returns-in-Err-clause-touched : goal.returns-in-Err-clause-touched
returns-in-Err-clause-touched g c = only_read g.F.Files.read_yields g.F.Files.read_ends g.F.Files.write_ends _ _ _ IsLeft c.stripped.ensures.ends
