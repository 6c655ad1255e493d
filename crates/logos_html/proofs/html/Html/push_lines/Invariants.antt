use Rattle.std.proofs.Common.{drop, length}
use Rattle.std.specs.List.{flat_map}
use Rattle.std.specs.Str.{chars}
use Rattle.logos_page.specs.Pages.{PageValue, Gains}
use Rattle.logos_html.specs.Escapes.{escaped_line_char}
use Rattle.logos_html.proofs.html.Html.push_lines.Given as goal

-- with the characters that are left the page gains all of them
abbrev pub invariant-loop-character : goal.invariant-loop-character
invariant-loop-character l = (new : PageValue) → Gains (flat_map escaped_line_char (drop (length l.yielded) (chars l.text))) l.self new → Gains (flat_map escaped_line_char (chars l.text)) l.initial.self new
