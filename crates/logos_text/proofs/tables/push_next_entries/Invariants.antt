use Rattle.std.proofs.Common.{◌≡◌, ◌++◌, codes, drop, string_bytes}
use Rattle.std.specs.List.{flat_map}
use Rattle.logos_text.specs.Texts.{entry_text}
use Rattle.logos_text.proofs.tables.push_next_entries.Given as goal

abbrev pub invariant-loop-entry : goal.invariant-loop-entry
invariant-loop-entry l =
    string_bytes l.text ++ flat_map (λ entry. codes " , " ++ entry_text entry) (drop l.entry-index l.entries)
    ≡ string_bytes l.initial.text ++ flat_map (λ entry. codes " , " ++ entry_text entry) l.entries
