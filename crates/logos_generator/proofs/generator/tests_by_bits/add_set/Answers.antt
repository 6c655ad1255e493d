use Rattle.std.proofs.Common.{◌∙◌, ap, sym, refl, Some}
use Rattle.std.specs.Cmp.{booleans_Decides}
use Rattle.std.proofs.lemmas.Slice.Eq.{slice_eq-Decides}
use Rattle.logos_generator.proofs.generator.tests_by_bits.add_set.Goals as goal

pub returns-clause-stored : goal.returns-clause-stored
returns-clause-stored c =
    let h = c.in_ok-k.ensures.stored in
    h.1 ∙ ap Some (sym ((slice_eq-Decides booleans_Decides c.args.set h.0 _ refl).0 h.2))
