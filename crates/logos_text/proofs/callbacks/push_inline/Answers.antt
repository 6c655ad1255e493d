use Rattle.logos_text.proofs.PieceLemmas.{notes_of, prints_both, prints_last}
use Rattle.logos_text.proofs.callbacks.push_inline.Goals as goal

pub returns : goal.returns
returns c = notes_of (prints_last (prints_both (prints_last (prints_both c.in_ok-push.ensures c.in_ok-push_name.ensures) c.in_ok-push-2.ensures) (rw c.run.ensures at c.in_ok-push_run.ensures)) c.in_ok-push-3.ensures)
