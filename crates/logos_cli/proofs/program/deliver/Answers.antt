use Rattle.logos_cli.specs.Orders.{order_value}
use Rattle.logos_cli.proofs.TouchLemmas.{none_written}
use Rattle.logos_cli.proofs.program.deliver.Goals as goal

pub returns-in-None-clause-touched : goal.returns-in-None-clause-touched
returns-in-None-clause-touched g c = none_written g.F.Files.read_ends g.F.Files.write_ends (order_value c.args.order).output c.args.files.now

pub returns-in-Some-clause-touched : goal.returns-in-Some-clause-touched
returns-in-Some-clause-touched g c = rw c.in-Some.is c.settle.ensures.touched
