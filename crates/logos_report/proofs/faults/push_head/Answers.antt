use Rattle.std.proofs.Common.{◌∙◌, ◌++◌, ap, codes}
use Rattle.logos_token.specs.FaultView.{fault_of}
use Rattle.logos_report.specs.Faults.{first_line}
use Rattle.logos_page.specs.Pages.{painted}
use Rattle.logos_page.specs.declared.page.Style.TheVariants.{Strong}
use Rattle.logos_page.specs.Shown.{shown_text}
use Rattle.logos_page.proofs.PageLemmas.{gains_as, gains_then}
use Rattle.logos_report.proofs.faults.push_head.Goals as goal

pub returns : goal.returns
returns c =
    let e = c.first_line.ensures ∙ ap first_line c.as_str.ensures.value in
    let line = rw e at c.push_message.ensures in
    gains_then c.push_code.ensures
    (gains_then (gains_as (λ colored. painted colored Strong (codes ": " ++ shown_text (first_line (fault_of c.args.fault.now).message))) c.push_code.ensures.colored line) c.push.ensures)
