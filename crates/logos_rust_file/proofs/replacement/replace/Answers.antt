use Rattle.std.proofs.Common.{length}
use Rattle.logos_rust_file.proofs.ReplaceLemmas.{order_next}
use Rattle.logos_rust_file.proofs.replacement.replace.Goals as goal

pub between-requires-clause-inside : goal.between-requires-clause-inside
between-requires-clause-inside c =
    (order_next c.args.parts.now c.loop-part.part-index c.part-item.result c.loop-part.from (length c.as_bytes-bytes.result.now) c.loop-part-test.true c.part-item.is c.loop-part.invariant.order).inside
