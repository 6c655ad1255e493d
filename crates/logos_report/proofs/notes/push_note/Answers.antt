use Rattle.std.proofs.Common.{refl}
use Rattle.logos_page.specs.declared.page.Style.TheVariants.{Strong}
use Rattle.logos_report.proofs.ReportLemmas.{begins_then, continued, continues_then, line_painted, line_shown}
use Rattle.logos_report.proofs.notes.push_note.Goals as goal

pub returns : goal.returns
returns c =
    let kind = continued (line_painted _ Strong c.args.kind.now c.requires) c.paint.ensures in
    begins_then c.push_note_mark.ensures (continues_then kind (continues_then (continued refl c.push.ensures) (continued (line_shown _) c.push_shown.ensures)))
