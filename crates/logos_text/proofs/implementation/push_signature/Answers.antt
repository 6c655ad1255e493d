use Rattle.logos_text.proofs.PieceLemmas.{prints_both, prints_last}
use Rattle.logos_text.proofs.implementation.push_signature.Goals as goal

pub returns : goal.returns
returns c = prints_last (prints_both (prints_last (prints_both (prints_last c.in_ok-push.ensures c.in_ok-push-2.ensures) c.in_ok-push_library.ensures) c.in_ok-push_answer.ensures) c.in_ok-push_library-2.ensures) c.in_ok-push-3.ensures
