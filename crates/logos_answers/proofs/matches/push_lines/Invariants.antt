use Rattle.std.proofs.Common.{drop}
use Rattle.logos_page.specs.Pages.{PageValue, Gains}
use Rattle.logos_answers.specs.Matches.{lines_of}
use Rattle.logos_answers.proofs.matches.push_lines.Given as goal

-- with the matches that are left the page gains all lines
abbrev pub invariant-loop-found : goal.invariant-loop-found
invariant-loop-found l = (new : PageValue) → Gains (lines_of l.start.leaves.now l.start.input.now l.start.from (drop l.found-index l.longest)) l.page new →
    Gains (lines_of l.start.leaves.now l.start.input.now l.start.from l.longest) l.initial.page new
