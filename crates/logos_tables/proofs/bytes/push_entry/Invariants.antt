use Rattle.std.proofs.Common.{◌≡◌, ◌++◌, string_bytes}
use Rattle.logos_tables.specs.Texts.{entry_text}
use Rattle.logos_tables.proofs.bytes.push_entry.Given as goal

-- the bytes that are left complete the text
abbrev pub invariant-loop-left : goal.invariant-loop-left
invariant-loop-left l = string_bytes l.text ++ entry_text l.left l.rest ≡ string_bytes l.initial.text ++ entry_text l.size l.number

abbrev pub decreases-loop-left : goal.decreases-loop-left
decreases-loop-left l = l.left
