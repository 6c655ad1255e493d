use Rattle.std.proofs.Common.{string_bytes}
use Rattle.logos_text.proofs.TextLemmas.{parts}
use Rattle.logos_text.proofs.conditions.push_condition.Goals as goal

pub returns : goal.returns
returns c =
    let a = string_bytes c.args.text.now in
    parts a _ _ (parts a _ _ (parts a _ _ (parts a _ _ c.in_ok-push_str.ensures c.in_ok-push_test.ensures) c.in_ok-push_str-2.ensures) c.in_ok-push_transition.ensures)
    c.in_ok-push_str-3.ensures
