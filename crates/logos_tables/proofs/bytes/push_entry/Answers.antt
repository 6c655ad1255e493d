use Rattle.std.proofs.Common.{string_bytes}
use Rattle.logos_tables.proofs.ByteLemmas.{entry_turn}
use Rattle.logos_tables.proofs.bytes.push_entry.Goals as goal

pub loop-left-preserved : goal.loop-left-preserved
loop-left-preserved c =
    entry_turn (string_bytes c.loop-left.text) (string_bytes c.push_byte.new.text) _ c.loop-left.left c.loop-left.rest c.loop-left-test.true c.in_ok-push_byte.ensures c.loop-left.invariant
