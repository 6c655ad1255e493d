use Rattle.logos_text.proofs.PieceLemmas.{notes_both, notes_last, notes_of}
use Rattle.logos_text.proofs.leaves.push_leaf.Goals as goal

pub returns : goal.returns
returns c =
    let begun = notes_both (notes_of c.in_ok-note_call.ensures) (notes_of c.in_ok-push.ensures) in
    let called = notes_last (notes_both begun c.in_ok-push_call.ensures) (notes_of c.in_ok-push-2.ensures) in
    rw c.in-Some.is (notes_both called c.in_ok-push_result.ensures)
