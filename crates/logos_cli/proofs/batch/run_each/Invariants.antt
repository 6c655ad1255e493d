use Rattle.std.proofs.Common.{◌≤◌, ◌≢◌, drop}
use Rattle.std.specs.Io.KnownBytes.{Keeps}
use Rattle.logos_cli.specs.Orders.{order_value}
use Rattle.logos_cli.specs.inside.BatchFiles.{orders_of}
use Rattle.logos_cli.proofs.BatchLemmas.{IsDoneSoFar, IsEndedSoFar}
use Rattle.logos_cli.proofs.TouchLemmas.{AreTouchedSoFar}
use Rattle.logos_cli.proofs.batch.run_each.Given as goal

-- A result for the rest completes to a result for the whole.
abbrev pub invariant-loop-batch_file : goal.invariant-loop-batch_file
invariant-loop-batch_file g l =
    IsDoneSoFar g.F.Files.read_yields g.F.Files.write_makes g.F.ComparableFiles.compare_finds (orders_of (order_value l.order) l.batch_files) (orders_of (order_value l.order) (drop l.batch_file-index l.batch_files)) l.ending.status l.fn.files l.files (g.O.Write.contents l.fn.out) (g.O.Write.contents l.out)
    × IsEndedSoFar g.F.Files.read_yields g.F.Files.write_makes g.F.ComparableFiles.compare_finds (orders_of (order_value l.order) l.batch_files) (orders_of (order_value l.order) (drop l.batch_file-index l.batch_files)) l.ending.status l.ending.is_written l.fn.files l.files (g.E.Write.contents l.fn.err) (g.E.Write.contents l.err)
    × (l.ending.status ≤ 1 → Keeps (g.O.Write.contents l.fn.out) (g.O.Write.contents l.out))
    × (l.ending.status ≤ 3) × (l.ending.status ≢ 2)
    × AreTouchedSoFar g.F.Files.read_ends g.F.Files.write_ends (orders_of (order_value l.order) l.batch_files) (orders_of (order_value l.order) (drop l.batch_file-index l.batch_files)) l.fn.files l.files
