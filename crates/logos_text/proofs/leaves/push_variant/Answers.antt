use Rattle.logos_text.proofs.PieceLemmas.{notes_of, prints_both, prints_last}
use Rattle.logos_text.proofs.leaves.push_variant.Goals as goal

pub returns : goal.returns
returns c = notes_of (prints_both (prints_last c.in_ok-push_name.ensures c.in_ok-push.ensures) c.in_ok-push_name-2.ensures)
