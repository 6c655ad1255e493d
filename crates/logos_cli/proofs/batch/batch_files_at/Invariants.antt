use Rattle.std.proofs.Common.{◌≡◌, ◌++◌, drop}
use Rattle.logos_options.specs.Paths.{texts_of}
use Rattle.logos_cli.specs.Orders.{order_value, orders_into}
use Rattle.logos_cli.specs.inside.BatchFiles.{orders_of}
use Rattle.logos_cli.proofs.batch.batch_files_at.Given as goal

-- The paths that are left complete the orders.
abbrev pub invariant-loop-path : goal.invariant-loop-path
invariant-loop-path l = orders_of (order_value l.batch.order) l.batch_files.items ++ orders_into (order_value l.batch.order) l.batch.folder.now (texts_of (drop l.path-index l.paths)) ≡ orders_into (order_value l.batch.order) l.batch.folder.now (texts_of l.paths)
