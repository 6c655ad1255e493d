use Rattle.std.proofs.Common.{◌≡◌, ◌++◌, drop, string_bytes}
use Rattle.std.specs.List.{flat_map}
use Rattle.logos_tables.specs.Texts.{entry_text}
use Rattle.logos_tables.proofs.bytes.push_entries.Given as goal

abbrev pub invariant-loop-number : goal.invariant-loop-number
invariant-loop-number l =
    string_bytes l.text ++ flat_map (entry_text l.size) (drop l.number-index l.numbers) ≡ string_bytes l.initial.text ++ flat_map (entry_text l.size) l.numbers
