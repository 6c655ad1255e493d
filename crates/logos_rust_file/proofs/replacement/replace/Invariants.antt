use Rattle.std.proofs.Common.{◌≡◌, ◌++◌, length, map, drop}
use Rattle.logos_rust_file.specs.Replacing.{AreInOrder, part_span, replaced}
use Rattle.logos_rust_file.proofs.replacement.replace.Given as goal

abbrev pub invariant-loop-part : goal.invariant-loop-part
invariant-loop-part l = record {
  order : AreInOrder l.from (map part_span (drop l.part-index l.parts)) (length l.bytes);
  made : l.made.items ++ replaced l.bytes l.from (drop l.part-index l.parts) ≡ replaced l.bytes 0 l.parts;
}
