use Rattle.std.proofs.Common.{◌≡◌, ◌++◌, drop, string_bytes}
use Rattle.std.specs.List.{flat_map}
use Rattle.logos_pattern.specs.Escaping.{escaped_byte}
use Rattle.logos_pattern.proofs.pattern.literal.push_bytes.Given as goal

abbrev pub invariant-loop-byte : goal.invariant-loop-byte
invariant-loop-byte l =
    string_bytes l.text ++ flat_map (escaped_byte l.literal) (drop l.byte-index l.value) ≡ string_bytes l.initial.text ++ flat_map (escaped_byte l.literal) l.value
