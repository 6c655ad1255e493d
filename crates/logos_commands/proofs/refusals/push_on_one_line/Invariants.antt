use Rattle.std.proofs.Common.{◌≡◌, ◌++◌, length, drop, string_bytes}
use Rattle.std.specs.List.{flat_map}
use Rattle.std.specs.Str.{chars}
use Rattle.logos_commands.specs.Refusals.{line_character}
use Rattle.logos_commands.proofs.refusals.push_on_one_line.Given as goal

abbrev pub invariant-loop-character : goal.invariant-loop-character
invariant-loop-character l =
    string_bytes l.text ++ flat_map line_character (drop (length l.yielded) (chars l.message)) ≡ string_bytes l.initial.text ++ flat_map line_character (chars l.message)
