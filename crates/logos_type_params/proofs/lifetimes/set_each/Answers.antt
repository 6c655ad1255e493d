use Rattle.std.proofs.Common.{◌++◌, ◌∙◌, map, sym}
use Rattle.std.proofs.lemmas.List.{at_drop_all, append-nil}
use Rattle.logos_type.specs.Parts.{tree_of}
use Rattle.logos_type_params.specs.TypeParams.{own_lifetime}
use Rattle.logos_type_params.proofs.ValueLemmas.{whole_with_own}
use Rattle.logos_type_params.proofs.lifetimes.set_each.Goals as goal

pub returns : goal.returns
returns c =
    let none = at_drop_all (λ ps. map tree_of c.loop-part.after.items ++ map (λ part. own_lifetime (tree_of part)) ps) c.args.parts.now c.loop-part.part-index c.loop-part-test.false in
    whole_with_own c.args.parts.now c.loop-part.after (sym (append-nil (map tree_of c.loop-part.after.items)) ∙ sym none ∙ c.loop-part.invariant)
