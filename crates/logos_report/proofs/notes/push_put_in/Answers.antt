use Rattle.std.proofs.Common.{refl}
use Rattle.logos_report.proofs.ReportLemmas.{continued, continues_then, line_location, line_shown}
use Rattle.logos_report.proofs.notes.push_put_in.Goals as goal

pub returns : goal.returns
returns c =
    let name = continues_then (continued refl c.push.ensures) (continues_then (continued (line_shown _) c.push_shown.ensures) (continued refl c.push-2.ensures)) in
    continues_then name (continued (line_location c.args.part.source.now c.args.part.offset c.args.put.definition) c.push_location.ensures)
