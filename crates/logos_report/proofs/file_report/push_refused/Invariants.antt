use Rattle.std.proofs.Common.{◌≡◌}
use Rattle.logos_page.specs.Pages.{PageValue}
use Rattle.logos_report.specs.Reports.{Shows}
use Rattle.logos_report.specs.Parts.{refused_texts, texts_from}
use Rattle.logos_report.proofs.file_report.push_refused.Given as goal

-- with the parts that are left the page shows all of them
abbrev pub invariant-loop-number : goal.invariant-loop-number
invariant-loop-number l = record {
  colored : l.page.is_colored ≡ l.initial.page.is_colored;
  rest : (new : PageValue) → Shows (texts_from l.initial.page.is_colored l.source l.refused l.number) l.page new → Shows (refused_texts l.initial.page.is_colored l.source l.refused) l.initial.page new;
}
