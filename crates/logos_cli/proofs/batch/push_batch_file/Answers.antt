use Rattle.logos_cli.specs.Orders.{order_into, order_value}
use Rattle.logos_cli.proofs.BatchLemmas.{orders_pushed}
use Rattle.logos_cli.proofs.batch.push_batch_file.Goals as goal

pub returns : goal.returns
returns c = orders_pushed (order_value c.args.batch.order) c.args.batch_files.now.items c.push.new.self.items c.in_ok-batch_file.batch_file (order_into (order_value c.args.batch.order) c.args.batch.folder.now c.args.path.now) c.in_ok-push.ensures.items (c.in_ok-batch_file.ensures (order_value c.args.batch.order))
