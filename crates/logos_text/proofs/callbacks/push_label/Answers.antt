use Rattle.logos_text.proofs.PieceLemmas.{notes_of, prints_last}
use Rattle.logos_text.proofs.callbacks.push_label.Goals as goal

pub returns : goal.returns
returns c = notes_of (prints_last c.in_ok-push_run.ensures c.in_ok-push.ensures)
