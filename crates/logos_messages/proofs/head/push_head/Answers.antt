use Rattle.std.proofs.Common.{◌∙◌, ap}
use Rattle.logos_json.proofs.LineLemmas.{gains_then}
use Rattle.logos_report.specs.Faults.{first_line}
use Rattle.logos_messages.proofs.head.push_head.Goals as goal

pub returns : goal.returns
returns c =
    let e = c.first_line.ensures ∙ ap first_line c.as_str.ensures.value in
    gains_then (rw e at c.push_message.ensures) (gains_then c.push_code.ensures (rw c.level_of.ensures at c.push_text.ensures))
