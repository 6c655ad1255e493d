use Rattle.logos_report.specs.Faults.{rest_text}
use Rattle.logos_page.specs.declared.page.Style.TheVariants.{Strong}
use Rattle.logos_page.proofs.PageLemmas.{gains_then, painted_gained}
use Rattle.logos_report.proofs.faults.push_rest_text.Goals as goal

pub returns : goal.returns
returns c = painted_gained Strong (rest_text c.args.count) _ _ _ _ c.begin.ensures (gains_then c.push.ensures (gains_then c.push_number.ensures c.push-2.ensures)) c.end.ensures
