use Rattle.std.proofs.Common.{◌∙◌, sym}
use Rattle.logos_cli.specs.Orders.{order_value}
use Rattle.logos_cli.specs.Runs.{IsDeniedOrder}
use Rattle.logos_cli.proofs.RunLemmas.{carried_out, denied_check, fails_twice, known_status, written}
use Rattle.logos_cli.proofs.TouchLemmas.{none_written}
use Rattle.logos_cli.proofs.program.carry_out.Goals as goal

pub returns-in-Ok-clause-done : goal.returns-in-Ok-clause-done
returns-in-Ok-clause-done g c =
    λ s. carried_out g.F.Files.read_yields g.F.Files.write_makes g.F.ComparableFiles.compare_finds (order_value c.args.order) _ _ _ _ _ _ c.in-Ok.ensures.done (c.deliver_and_end.ensures.done s)

pub returns-in-Ok-clause-denied : goal.returns-in-Ok-clause-denied
returns-in-Ok-clause-denied g c =
    λ s. let t = c.deliver_and_end.ensures.denied s in
    (t.0, denied_check g.F.Files.read_yields g.F.Files.write_makes g.F.ComparableFiles.compare_finds (order_value c.args.order) _ _ _ _ t.0 c.in-Ok.ensures.done (t.1, t.2), t.3)

pub returns-in-Err-clause-done : goal.returns-in-Err-clause-done
returns-in-Err-clause-done g c = λ s. absurd ((known_status c.in-Err.failure).1 (sym c.failed.ensures.status ∙ s))

pub returns-in-Err-clause-denied : goal.returns-in-Err-clause-denied
returns-in-Err-clause-denied g c = λ s. written (IsDeniedOrder g.F.Files.read_yields g.F.Files.write_makes g.F.ComparableFiles.compare_finds (order_value c.args.order) c.args.files.now c.expansion_of.new.files) c.in-Err.failure _ _ _ c.in-Err.ensures.denied (sym c.failed.ensures.status ∙ s) c.failed.ensures.written

pub returns-in-Err-clause-known : goal.returns-in-Err-clause-known
returns-in-Err-clause-known g c = (rw c.failed.ensures.status (known_status c.in-Err.failure).0, λ s. fails_twice c.in-Err.failure c.in-Err.ensures.denied (sym c.failed.ensures.status ∙ s))

pub returns-in-Ok-clause-touched : goal.returns-in-Ok-clause-touched
returns-in-Ok-clause-touched g c = (c.expansion_of.new.files, c.expansion_of.ensures.ends, c.deliver_and_end.ensures.touched)

pub returns-in-Err-clause-touched : goal.returns-in-Err-clause-touched
returns-in-Err-clause-touched g c =
    (c.expansion_of.new.files, c.expansion_of.ensures.ends, none_written g.F.Files.read_ends g.F.Files.write_ends (order_value c.args.order).output c.expansion_of.new.files)
