use Rattle.std.proofs.Common.{◌++◌, ◌∙◌, map, sym}
use Rattle.std.proofs.lemmas.List.{at_drop_all, append-nil}
use Rattle.logos_type.specs.Parts.{tree_of}
use Rattle.logos_type_params.specs.TypeParams.{with_lifetimes}
use Rattle.logos_type_params.proofs.ValueLemmas.{whole_with_lifetimes}
use Rattle.logos_type_params.proofs.lifetimes.+set_lifetimes.Goals as goal

pub returns-after-loop-inner : goal.returns-after-loop-inner
returns-after-loop-inner t c =
    let none = at_drop_all (λ ps. map tree_of c.loop-inner.after.items ++ map (λ part. with_lifetimes (tree_of part)) ps) c.deref-inner-items.result.now c.loop-inner.inner-index c.loop-inner-test.false in
    let each = rw c.deref-inner-items.ensures.value at (sym (append-nil (map tree_of c.loop-inner.after.items)) ∙ sym none ∙ c.loop-inner.invariant) in
    whole_with_lifetimes c.args.part.now c.in-Whole.parts c.loop-inner.after c.in-Whole.is each
