use Rattle.logos_report.specs.Faults.{rest_text}
use Rattle.logos_page.specs.Pages.{painted}
use Rattle.logos_page.specs.declared.page.Style.TheVariants.{Strong}
use Rattle.logos_page.proofs.PageLemmas.{gains_as, gains_then}
use Rattle.logos_report.proofs.faults.push_rest_line.Goals as goal

pub returns : goal.returns
returns c =
    gains_then c.push_code.ensures
    (gains_then (gains_as (λ colored. painted colored Strong (rest_text c.args.count)) c.push_code.ensures.colored c.push_rest_text.ensures) c.push.ensures)
