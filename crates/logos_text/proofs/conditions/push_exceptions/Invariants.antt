use Rattle.std.proofs.Common.{◌≡◌, ◌++◌, drop, string_bytes}
use Rattle.std.specs.List.{flat_map}
use Rattle.logos_text.specs.Texts.{exception_text}
use Rattle.logos_text.proofs.conditions.push_exceptions.Given as goal

abbrev pub invariant-loop-byte : goal.invariant-loop-byte
invariant-loop-byte l =
    string_bytes l.text ++ flat_map exception_text (drop l.byte-index l.bytes) ≡ string_bytes l.initial.text ++ flat_map exception_text l.bytes
