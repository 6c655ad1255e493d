use Rattle.logos_report.specs.Warnings.{shown_of}
use Rattle.logos_expand.proofs.expansion.fault_lines.Goals as goal

pub returns : goal.returns
returns c = let m = c.in_ok-push_refused_messages.ensures.pushed in (shown_of c.args.warned.now, c.in_ok-lines.lines.items, m.0, m.1, c.in_ok-lines.ensures, m.2)
