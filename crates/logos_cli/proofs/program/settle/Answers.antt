use Rattle.std.proofs.Common.{Some}
use Rattle.logos_cli.proofs.TouchLemmas.{only_compared, then_written}
use Rattle.logos_cli.proofs.program.settle.Goals as goal

pub returns-in-Err-clause-touched : goal.returns-in-Err-clause-touched
returns-in-Err-clause-touched g c = only_compared g.F.Files.read_ends g.F.Files.write_ends (Some c.args.path.now) c.args.files.now c.compare.new.self c.compare.ensures.ends

pub returns-then-matches-clause-touched : goal.returns-then-matches-clause-touched
returns-then-matches-clause-touched g c = only_compared g.F.Files.read_ends g.F.Files.write_ends (Some c.args.path.now) c.args.files.now c.compare.new.self c.compare.ensures.ends

pub returns-then-order-clause-touched : goal.returns-then-order-clause-touched
returns-then-order-clause-touched g c = only_compared g.F.Files.read_ends g.F.Files.write_ends (Some c.args.path.now) c.args.files.now c.compare.new.self c.compare.ensures.ends

pub returns-clause-touched : goal.returns-clause-touched
returns-clause-touched g c =
    then_written g.F.Files.read_ends g.F.Files.write_ends c.args.path.now c.args.files.now c.compare.new.self c.write_file.new.files c.compare.ensures.ends c.write_file.ensures.ends
