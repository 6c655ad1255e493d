use Rattle.std.proofs.Common.{◌≡◌, option_copied}
use Rattle.logos_text.proofs.PieceLemmas.{last_noted, notes_both}
use Rattle.logos_text.proofs.actions.push_table_actions.Goals as goal

pub returns : goal.returns
returns c =
    let same : option_copied c.as_ref.result ≡ c.args.parts.now.header.error_callback = c.as_ref.ensures.value in
    let error = rw same at c.in_ok-push_make_error.ensures in
    let called = rw c.deref.ensures.value at c.in_ok-push_action.ensures in
    let plain = rw c.deref-2.ensures.value at c.in_ok-push_tokens.ensures in
    last_noted (notes_both error (notes_both called plain)) c.in_ok-push.ensures
