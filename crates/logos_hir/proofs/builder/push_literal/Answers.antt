use Rattle.std.proofs.Common.{◌≡◌, map, ap, ◌∙◌, ◌++◌}
use Rattle.std.proofs.lemmas.List.{map_push}
use Rattle.logos_hir.specs.Hir.{tree_of}
use Rattle.logos_hir.specs.inside.BuildSteps.{part_text, add_text}
use Rattle.logos_hir.proofs.tree.BuildLemmas.{add_text-last}
use Rattle.logos_hir.proofs.builder.push_literal.Goals as goal

pub returns-in-Some : goal.returns-in-Some
returns-in-Some c =
    let bytes = c.args.bytes.items in
    let e : add_text (map tree_of c.args.parts.now.items) bytes ≡ map tree_of c.pop.new.self.items ++ part_text (tree_of c.in-Some.last) bytes =
    ap (λ xs. add_text (map tree_of xs) bytes) c.in-Some.ensures.items ∙ ap (λ ts. add_text ts bytes) (map_push tree_of c.pop.new.self.items c.in-Some.last) ∙ add_text-last _ _ _ in
    rw e c.push_after.ensures
