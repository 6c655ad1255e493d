use Rattle.std.proofs.Common.{refl}
use Rattle.logos_text.proofs.PieceLemmas.{notes_both, notes_last, notes_of, notes_text}
use Rattle.logos_text.proofs.actions.push_called_arm.Goals as goal

pub returns : goal.returns
returns c = notes_last (notes_both (notes_text _ c.in_ok-write.ensures.bytes refl) c.in_ok-push_leaf.ensures) (notes_of c.in_ok-push.ensures)
