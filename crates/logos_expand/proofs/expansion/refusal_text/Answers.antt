use Rattle.std.proofs.Common.{◌≡◌, Bool, ap, ◌∙◌, string_bytes}
use Rattle.logos_page.specs.Pages.{PageValue}
use Rattle.logos_page.proofs.PageLemmas.{gains_as}
use Rattle.logos_report.specs.Faults.{summary_line}
use Rattle.logos_report.specs.Parts.{refused_texts}
use Rattle.logos_report.specs.Warnings.{warnings_texts}
use Rattle.logos_report.proofs.ReportLemmas.{shown, shows_as, shows_then}
use Rattle.logos_file_warnings.proofs.ShownLemmas.{finished}
use Rattle.logos_expand.proofs.expansion.refusal_text.Goals as goal

pub returns : goal.returns
returns c =
    let first : c.new-page.result.is_colored ≡ c.args.showing.is_colored = ap (λ (page : PageValue). page.is_colored) c.new-page.ensures in
    let w = shows_as (λ (is_colored : Bool). warnings_texts is_colored c.args.source.now 0 c.args.warned.now) first c.push_warned.ensures in
    let s = shows_as (λ (is_colored : Bool). refused_texts is_colored c.args.source.now c.args.refused.now) (w.colored ∙ first) c.push_refused.ensures in
    let g = gains_as (λ (is_colored : Bool). summary_line is_colored c.count_refused.result) (s.colored ∙ (w.colored ∙ first)) c.push_summary.ensures in
    finished string_bytes c.finish.result _ c.args.showing.is_colored c.new-page.result _ (ap (λ (page : PageValue). page.text) c.new-page.ensures) first
    (shows_then w (shows_then s (shown (rw c.count_refused.ensures at g)))) c.finish.ensures.whole c.finish.ensures.text
