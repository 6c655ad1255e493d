use Rattle.std.proofs.Common.{◌≡◌, ◌++◌, drop, map, string_bytes}
use Rattle.std.specs.List.{flat_map}
use Rattle.logos_byte_class.specs.Bytes.{bounds}
use Rattle.logos_graph.specs.Mermaid.{next_label}
use Rattle.logos_graph.proofs.graph.mermaid.push_next_ranges.Given as goal

abbrev pub invariant-loop-range : goal.invariant-loop-range
invariant-loop-range l =
    string_bytes l.text ++ flat_map next_label (map bounds (drop l.range-index l.ranges)) ≡ string_bytes l.initial.text ++ flat_map next_label (map bounds l.ranges)
