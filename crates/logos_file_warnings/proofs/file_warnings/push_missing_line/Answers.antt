use Rattle.logos_page.proofs.PageLemmas.{gains_then}
use Rattle.logos_file_warnings.proofs.file_warnings.push_missing_line.Goals as goal

pub returns : goal.returns
returns c = gains_then c.push.ensures (gains_then (rw c.path.ensures at c.push_shown.ensures) c.push-2.ensures)
