use Rattle.std.proofs.Common.{map, ap, ◌∙◌}
use Rattle.logos_byte_class.specs.Bytes.{bounds}
use Rattle.logos_graph.specs.GraphView.{edge_of}
use Rattle.logos_graph.proofs.EdgeLemmas.{pushed_at, inserted_at}
use Rattle.logos_graph.proofs.graph.states.add_range.Goals as goal

pub returns-then-is_at : goal.returns-then-is_at
returns-then-is_at c =
    let first = rw c.deref.ensures.value at c.slot_of-slot.ensures in
    let hit = rw c.deref-2.ensures.value at (c.is_at.ensures.hit c.if-is_at.true) in
    pushed_at c.args.edges.now.items c.slot_of-slot.result c.index_mut.result.now c.push_range.new.edge (bounds c.args.range) c.args.target first hit.0 hit.1
    c.index_mut.ensures.value c.in_ok-push_range.ensures

pub returns : goal.returns
returns c =
    let first = rw c.deref.ensures.value at c.slot_of-slot.ensures in
    let miss = rw c.deref-2.ensures.value at (c.is_at.ensures.miss c.if-is_at.false) in
    ap (map edge_of) c.in_ok-insert.ensures.items
    ∙ inserted_at c.args.edges.now.items c.slot_of-slot.result c.in_ok-new_edge.field-0 (bounds c.args.range) c.args.target first miss c.in_ok-new_edge.ensures
