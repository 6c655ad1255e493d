use Rattle.std.proofs.Common.{inl, inr}
use Rattle.logos_enum.specs.EnumValues.{enum_value}
use Rattle.logos_warnings.specs.Shown.{IsIgnored, IsIgnoredIn, IsIgnoredOn}
use Rattle.logos_warnings.proofs.ShownLemmas.{adds_also, then_ok}
use Rattle.logos_warnings.proofs.other_attributes.add_others.Goals as goal

pub returns : goal.returns
returns c =
    let item = enum_value c.args.item.now in
    then_ok c.add_variants.result (IsIgnored item) (IsIgnoredOn item.variants) _ _ _ (adds_also (IsIgnoredIn item.attributes) (IsIgnored item) _ _ (λ warning h. inl h) c.in_ok-add_run.ensures) (λ warning h. inr h) (rw c.as_slice.ensures.value at c.add_variants.ensures)
