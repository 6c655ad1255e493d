use Rattle.std.proofs.Common.{sym}
use Rattle.logos_cli.proofs.batch.is_input.Goals as goal

pub returns-then-is_same_file-clause-same : goal.returns-then-is_same_file-clause-same
returns-then-is_same_file-clause-same g c = λ _. (c.batch_file-item.result, (c.loop-batch_file.batch_file-index, c.loop-batch_file-test.true, sym c.batch_file-item.is), c.if-is_same_file.ensures)
