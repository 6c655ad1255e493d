use Rattle.logos_report.proofs.ReportLemmas.{continued, continues_nothing, continues_then, line_shown_char}
use Rattle.logos_report.proofs.window.LineWindow.push_characters.Goals as goal

pub loop-character-init : goal.loop-character-init
loop-character-init c = continues_nothing _

pub loop-character-preserved : goal.loop-character-preserved
loop-character-preserved c = continues_then c.loop-character.invariant (continued (line_shown_char _) c.push_shown_char.ensures)
