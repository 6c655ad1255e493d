use Rattle.std.proofs.Common.{◌≡◌}
use Rattle.logos_positions.proofs.trees.ByteLemmas.{byte_literal}
use Rattle.logos_positions.proofs.trees.IsCoreLemmas.{core_literal}
use Rattle.logos_positions.proofs.trees.NodeLemmas.{core-Bytes, core-Literal}
use Rattle.logos_positions.proofs.preparation.prepare_literal.Goals as goal

pub returns-in-len1-clause-occurs : goal.returns-in-len1-clause-occurs
returns-in-len1-clause-occurs c =
    rw (core-Bytes c.in_ok-ranges.ranges)
    (byte_literal c.args.bytes.now _ c.in_ok-ranges.ranges.items c.new.result c.in-len1.len_at_least c.in-len1.len_below c.in_ok-ranges.ensures.items c.new.ensures)

pub returns-clause-occurs : goal.returns-clause-occurs
returns-clause-occurs c =
    let same : c.in_ok-from_slice.field-0.items ≡ c.args.bytes.now = c.in_ok-from_slice.ensures.items in
    rw (core-Literal c.in_ok-from_slice.field-0, same) (core_literal c.args.bytes.now)
