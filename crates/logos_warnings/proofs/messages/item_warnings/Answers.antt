use Rattle.logos_enum.specs.EnumValues.{enum_value}
use Rattle.logos_warnings.specs.Shown.{IsIgnored}
use Rattle.logos_warnings.proofs.ShownLemmas.{adds_none, of_item}
use Rattle.logos_warnings.proofs.messages.item_warnings.Goals as goal

pub returns-then-not-derives : goal.returns-then-not-derives
returns-then-not-derives c =
    let item = enum_value c.args.item.now in
    of_item item c.args.derives c.args.origin c.in_ok-mistakes.mistakes.items _ _ c.in_ok-mistakes.ensures (rw c.deref.ensures.value at c.in_ok-warnings.ensures) (adds_none (IsIgnored item) _)

pub returns : goal.returns
returns c =
    of_item (enum_value c.args.item.now) c.args.derives c.args.origin c.in_ok-mistakes.mistakes.items _ _ c.in_ok-mistakes.ensures (rw c.deref.ensures.value at c.in_ok-warnings.ensures) c.in_ok-add_others.ensures
