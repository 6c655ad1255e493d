use Rattle.std.proofs.Common.{string_bytes, arith}
use Rattle.logos_byte_class.specs.Bytes.{bounds}
use Rattle.logos_graph.specs.Mermaid.{next_label}
use Rattle.logos_graph.proofs.DiagramLemmas.{next_added, all_added}
use Rattle.logos_graph.proofs.graph.mermaid.push_next_ranges.Goals as goal

pub loop-range-preserved : goal.loop-range-preserved
loop-range-preserved c =
    next_added bounds next_label c.args.ranges.now c.loop-range.range-index _ _ (string_bytes c.loop-range.text) (string_bytes c.push_next_range.new.text) (omega arith)
    c.in_ok-push_next_range.ensures c.loop-range.invariant

pub returns : goal.returns
returns c = all_added bounds next_label c.args.ranges.now c.loop-range.range-index _ (string_bytes c.loop-range.text) (omega arith) c.loop-range.invariant
