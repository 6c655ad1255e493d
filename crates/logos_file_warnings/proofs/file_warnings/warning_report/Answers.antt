use Rattle.std.proofs.Common.{Bool, ap, string_bytes}
use Rattle.logos_page.specs.Pages.{PageValue}
use Rattle.logos_report.specs.Warnings.{warnings_texts}
use Rattle.logos_report.proofs.ReportLemmas.{shows_as, shows_then}
use Rattle.logos_file_warnings.proofs.ShownLemmas.{finished}
use Rattle.logos_file_warnings.proofs.file_warnings.warning_report.Goals as goal

pub returns : goal.returns
returns c =
    let colored = ap (λ (page : PageValue). page.is_colored) c.new-page.ensures in
    let s = shows_as (λ (is_colored : Bool). warnings_texts is_colored c.args.source.now 0 c.args.warned.now) colored c.push_warned.ensures in
    finished string_bytes c.finish.result _ c.args.showing.is_colored c.new-page.result _ (ap (λ (page : PageValue). page.text) c.new-page.ensures) colored (shows_then s c.push_missing.ensures) c.finish.ensures.whole c.finish.ensures.text
