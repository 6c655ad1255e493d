use Rattle.logos_report.proofs.ReportLemmas.{shown, shows_nothing}
use Rattle.logos_file_warnings.proofs.file_warnings.push_missing.Goals as goal

pub returns-then-is_missing : goal.returns-then-is_missing
returns-then-is_missing c = rw c.if-is_missing.true (shown c.push_missing_line.ensures)

pub returns-else-is_missing : goal.returns-else-is_missing
returns-else-is_missing c = rw c.if-is_missing.false (shows_nothing _)
