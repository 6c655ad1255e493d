use Rattle.std.proofs.Common.{◌++◌, codes, refl}
use Rattle.logos_report.proofs.ReportLemmas.{begins_then, continued, continues_then, line_begun, line_ended, line_shown_aside, line_times}
use Rattle.logos_report.proofs.frame.push_carets.Goals as goal

pub returns : goal.returns
returns c =
    let blanks = continues_then (continued refl c.push.ensures) (continued (line_times c.columns_before.result (codes " ") refl) c.push_times.ensures) in
    let carets = continues_then (continued refl c.push-2.ensures) (continued (line_times c.saturating_sub.result (codes "^") refl) c.push_times-2.ensures) in
    let label = continues_then c.push_label.ensures (continued (line_ended _) c.end.ensures) in
    let painted = continues_then (continued (line_begun _ _) c.begin.ensures) (continues_then carets label) in
    line_shown_aside (begins_then c.push_margin.ensures (continues_then blanks painted)) c.push-3.ensures
