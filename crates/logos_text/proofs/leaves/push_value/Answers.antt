use Rattle.logos_text.proofs.PieceLemmas.{notes_both, notes_last, notes_of}
use Rattle.logos_text.proofs.leaves.push_value.Goals as goal

pub returns : goal.returns
returns c = notes_last (notes_both (notes_of c.in_ok-push.ensures) c.in_ok-push_variant.ensures) (notes_of c.in_ok-push-2.ensures)
