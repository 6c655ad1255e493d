use Rattle.std.proofs.Common.{map, take}
use Rattle.std.specs.Fmt.{HasWritten, IsPlainFormatter}
use Rattle.logos_byte_class.specs.Bytes.{bounds}
use Rattle.logos_byte_class.specs.ClassText.{next_ranges_text}
use Rattle.logos_byte_class.proofs.text.NextRangesDisplay.fmt.Given as goal

abbrev pub invariant-loop-range : goal.invariant-loop-range
invariant-loop-range g l =
    IsPlainFormatter l.initial.f → HasWritten g.W.Write.write_str_gives l.initial.f (next_ranges_text l.self.between.now (map bounds (take l.range-index l.self.ranges.now))) l.f
