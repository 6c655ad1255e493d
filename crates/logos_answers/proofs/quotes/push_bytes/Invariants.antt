use Rattle.std.proofs.Common.{drop}
use Rattle.std.specs.List.{flat_map}
use Rattle.logos_page.specs.Pages.{PageValue, Gains}
use Rattle.logos_answers.specs.Quoting.{shown_byte}
use Rattle.logos_answers.proofs.quotes.push_bytes.Given as goal

-- with the bytes that are left the page gains all of them
abbrev pub invariant-loop-byte : goal.invariant-loop-byte
invariant-loop-byte l = (new : PageValue) → Gains (flat_map shown_byte (drop l.byte-index l.bytes)) l.page new → Gains (flat_map shown_byte l.bytes) l.initial.page new
