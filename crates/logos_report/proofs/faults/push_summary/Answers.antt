use Rattle.logos_report.specs.Faults.{count_text}
use Rattle.logos_page.specs.Pages.{painted}
use Rattle.logos_page.specs.declared.page.Style.TheVariants.{Strong}
use Rattle.logos_page.proofs.PageLemmas.{gains_as, gains_then, painted_gained}
use Rattle.logos_report.proofs.faults.push_summary.Goals as goal

pub returns : goal.returns
returns c =
    let counted = painted_gained Strong (count_text c.args.count) _ _ _ _ c.begin.ensures c.push_count.ensures c.end.ensures in
    gains_then c.paint.ensures (gains_then (gains_as (λ colored. painted colored Strong (count_text c.args.count)) c.paint.ensures.colored counted) c.push.ensures)
