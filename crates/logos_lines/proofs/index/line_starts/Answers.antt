use Rattle.logos_lines.proofs.LocationLemmas.{starts_begin, starts_more}
use Rattle.logos_lines.proofs.index.line_starts.Goals as goal

pub loop-at-init : goal.loop-at-init
loop-at-init c = rw (c.in_ok-push.ensures.items, c.new-starts.ensures.items) (starts_begin _ c.as_bytes-bytes.ensures.utf8)

pub loop-at-preserved : goal.loop-at-preserved
loop-at-preserved c =
    starts_more c.as_bytes-bytes.result.now c.as_bytes-bytes.ensures.utf8 c.loop-at.starts.items _ c.loop-at.at c.loop-at-test.true c.loop-at.invariant c.in_ok-push_start.ensures
