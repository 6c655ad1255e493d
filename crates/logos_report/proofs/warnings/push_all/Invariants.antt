use Rattle.std.proofs.Common.{◌≡◌, drop}
use Rattle.logos_page.specs.Pages.{PageValue}
use Rattle.logos_report.specs.Reports.{Shows}
use Rattle.logos_report.specs.Warnings.{all_texts}
use Rattle.logos_report.proofs.warnings.push_all.Given as goal

-- with the warnings that are left the page shows all of them
abbrev pub invariant-loop-warning : goal.invariant-loop-warning
invariant-loop-warning l = record {
  colored : l.page.is_colored ≡ l.initial.page.is_colored;
  rest : (new : PageValue) →
      Shows (all_texts l.initial.page.is_colored l.part.source.now l.part.offset (drop l.warning-index l.warnings)) l.page new →
      Shows (all_texts l.initial.page.is_colored l.part.source.now l.part.offset l.warnings) l.initial.page new;
}
