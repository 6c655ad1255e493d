use Rattle.std.proofs.Common.{string_bytes}
use Rattle.logos_text.proofs.TextLemmas.{parts}
use Rattle.logos_text.proofs.conditions.push_between.Goals as goal

pub returns : goal.returns
returns c =
    let a = string_bytes c.args.text.now in
    parts a _ _ (parts a _ _ (parts a _ _ (parts a _ _ (parts a _ _ (parts a _ _ c.in_ok-push_str.ensures c.in_ok-push_end.ensures) c.in_ok-push_str-2.ensures)
    c.in_ok-push_end-2.ensures) c.in_ok-push_str-3.ensures) c.in_ok-push_exceptions.ensures)
    c.in_ok-push_str-4.ensures
