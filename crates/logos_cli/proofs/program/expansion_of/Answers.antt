use Rattle.logos_cli.specs.Orders.{order_value}
use Rattle.logos_cli.proofs.RunLemmas.{denied_faults}
use Rattle.logos_cli.proofs.program.expansion_of.Goals as goal

pub returns-clause-denied : goal.returns-clause-denied
returns-clause-denied g c =
    denied_faults g.F.Files.read_yields g.F.Files.write_makes g.F.ComparableFiles.compare_finds (order_value c.args.order) c.expand.result _ _ _ _ c.in-Ok.ensures.read c.as_str.ensures.value (rw c.in-Ok-new.ensures at c.expand.ensures.denied)
