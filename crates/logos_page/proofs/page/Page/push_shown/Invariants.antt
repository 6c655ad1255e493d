use Rattle.std.proofs.Common.{drop, length}
use Rattle.std.specs.List.{flat_map}
use Rattle.std.specs.Str.{chars}
use Rattle.logos_page.specs.Pages.{PageValue, Gains}
use Rattle.logos_page.specs.Shown.{shown_char, shown_text}
use Rattle.logos_page.proofs.page.Page.push_shown.Given as goal

-- with the characters that are left the page gains all of them
abbrev pub invariant-loop-character : goal.invariant-loop-character
invariant-loop-character l =
    (new : PageValue) → Gains (flat_map shown_char (drop (length l.yielded) (chars l.text))) l.self new → Gains (shown_text l.text) l.initial.self new
