use Rattle.std.proofs.Common.{◌↔◌, map, drop}
use Rattle.logos_byte_class.specs.Bytes.{bounds, AreSeparatedFrom}
use Rattle.logos_byte_class.proofs.byte_class.ByteClass.is_separated.Given as goal

abbrev pub invariant-loop-range : goal.invariant-loop-range
invariant-loop-range l =
    AreSeparatedFrom 0 (map bounds l.range-items) ↔ AreSeparatedFrom l.least (map bounds (drop l.range-index l.range-items))
