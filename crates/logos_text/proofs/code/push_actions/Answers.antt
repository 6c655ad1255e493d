use Rattle.std.proofs.Common.{◌≡◌, option_copied, refl}
use Rattle.logos_text.proofs.PieceLemmas.{notes_both, notes_grown, notes_last}
use Rattle.logos_text.proofs.code.push_actions.Goals as goal

pub returns : goal.returns
returns c =
    let same : option_copied c.as_ref.result ≡ c.args.parts.now.header.error_callback = c.as_ref.ensures.value in
    let error = rw same at c.in_ok-push_make_error.ensures in
    let leaves = rw c.deref.ensures.value at c.in_ok-push_get_action.ensures in
    notes_last (notes_both error leaves) (notes_grown c.in_ok-push_leaf_names.ensures refl)
