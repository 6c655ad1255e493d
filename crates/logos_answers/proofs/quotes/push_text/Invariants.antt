use Rattle.std.proofs.Common.{drop, length}
use Rattle.std.specs.List.{flat_map}
use Rattle.std.specs.Str.{chars}
use Rattle.logos_page.specs.Pages.{PageValue, Gains}
use Rattle.logos_answers.specs.Quoting.{shown_character}
use Rattle.logos_answers.proofs.quotes.push_text.Given as goal

-- with the characters that are left the page gains all of them
abbrev pub invariant-loop-character : goal.invariant-loop-character
invariant-loop-character l = (new : PageValue) → Gains (flat_map shown_character (drop (length l.yielded) (chars l.text))) l.page new → Gains (flat_map shown_character (chars l.text)) l.initial.page new
