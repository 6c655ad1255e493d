use Rattle.logos_report.specs.Warnings.{left_out_texts}
use Rattle.logos_report.proofs.ReportLemmas.{shows_as, shows_then}
use Rattle.logos_report.proofs.warnings.push_warnings.Goals as goal

pub returns : goal.returns
returns c =
    let all = rw c.first_of.ensures at c.push_all.ensures in
    let rest = shows_as (λ colored. left_out_texts colored c.saturating_sub.result) c.push_all.ensures.colored c.push_left_out.ensures in
    shows_then all (rw c.saturating_sub.ensures at rest)
