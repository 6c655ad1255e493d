use Rattle.std.proofs.Common.{◌++◌, codes}
use Rattle.logos_page.specs.Shown.{shown_text}
use Rattle.logos_page.proofs.PageLemmas.{gains_then, painted_gained}
use Rattle.logos_page.specs.declared.page.Style.TheVariants.{Strong}
use Rattle.logos_report.proofs.faults.push_message.Goals as goal

pub returns : goal.returns
returns c = painted_gained Strong (codes ": " ++ shown_text c.args.line.now) _ _ _ _ c.begin.ensures (gains_then c.push.ensures c.push_shown.ensures) c.end.ensures
