use Rattle.std.proofs.Common.{refl}
use Rattle.logos_text.proofs.TextLemmas.{adds_both, grows_after}
use Rattle.logos_text.proofs.PieceLemmas.{notes_adds, notes_both, notes_grown, notes_last}
use Rattle.logos_text.proofs.code.push_code.Goals as goal

pub returns-clause-adds : goal.returns-clause-adds
returns-clause-adds c =
    let tables = rw c.deref.ensures.value at c.in_ok-push_tables.ensures in
    adds_both (grows_after (adds_both c.in_ok-push_macros.ensures tables) (notes_adds c.in_ok-push_actions.ensures)) c.in_ok-push_rest.ensures

pub returns-clause-notes : goal.returns-clause-notes
returns-clause-notes c =
    notes_last (notes_both (notes_grown (adds_both c.in_ok-push_macros.ensures c.in_ok-push_tables.ensures) refl) c.in_ok-push_actions.ensures) (notes_grown c.in_ok-push_rest.ensures refl)
