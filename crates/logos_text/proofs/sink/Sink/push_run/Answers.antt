use Rattle.logos_text.proofs.PieceLemmas.{prints_last}
use Rattle.logos_text.proofs.sink.Sink.push_run.Goals as goal

pub returns : goal.returns
returns c = prints_last c.in_ok-push_tokens.ensures (rw c.gap_after.ensures at c.in_ok-push.ensures)
