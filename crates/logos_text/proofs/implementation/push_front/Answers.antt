use Rattle.logos_text.proofs.PieceLemmas.{prints_both}
use Rattle.logos_text.proofs.implementation.push_front.Goals as goal

pub returns : goal.returns
returns c = prints_both (prints_both (prints_both c.in_ok-push_head.ensures c.in_ok-push_types.ensures) c.in_ok-push_signature.ensures) c.in_ok-push_uses.ensures
