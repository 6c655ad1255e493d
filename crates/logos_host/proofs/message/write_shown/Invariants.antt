use Rattle.std.proofs.Common.{List, ℕ, Option, drop, length}
use Rattle.std.specs.Io.KnownBytes.{Appends}
use Rattle.std.specs.List.{flat_map}
use Rattle.std.specs.Str.{chars}
use Rattle.logos_page.specs.Shown.{shown_char}
use Rattle.logos_host.proofs.message.write_shown.Given as goal

-- with the characters that are left the writer gets all of them
abbrev pub invariant-loop-character : goal.invariant-loop-character
invariant-loop-character g l =
    (new : Option (List ℕ)) → Appends (g.E.Write.contents l.err) new (flat_map shown_char (drop (length l.yielded) (chars l.text))) → Appends (g.E.Write.contents l.fn.err) new (flat_map shown_char (chars l.text))
