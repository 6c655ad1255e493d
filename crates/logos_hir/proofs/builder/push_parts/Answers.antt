use Rattle.std.proofs.Common.{map, ap, ◌∙◌, sym, [], ◌∷◌}
use Rattle.std.proofs.lemmas.List.{map_push}
use Rattle.logos_hir.specs.Hir.{tree_of}
use Rattle.logos_hir.specs.inside.BuildSteps.{add_part, add_parts}
use Rattle.logos_hir.proofs.tree.BuildLemmas.{add_parts-append}
use Rattle.logos_hir.proofs.builder.push_parts.Goals as goal

pub loop-part-preserved : goal.loop-part-preserved
loop-part-preserved c =
    let before = map tree_of c.args.parts.now.items in
    c.in_ok-push_part.ensures ∙ ap (λ ps. add_part ps (tree_of c.in-Some.part)) c.loop-part.invariant
    ∙ sym (ap (add_parts before) (map_push tree_of c.loop-part.yielded c.in-Some.part) ∙ add_parts-append before (map tree_of c.loop-part.yielded) (tree_of c.in-Some.part ∷ []))
