use Rattle.std.proofs.Common.{◌≡◌, map, drop}
use Rattle.logos_hir.specs.ByteRanges.{is_in}
use Rattle.logos_byte_class.specs.Bytes.{bounds}
use Rattle.logos_evidence.proofs.graph_steps.holds.Given as goal

abbrev pub invariant-loop-range : goal.invariant-loop-range
invariant-loop-range l = is_in (map bounds (drop l.range-index l.range-items)) l.byte ≡ is_in (map bounds l.range-items) l.byte
