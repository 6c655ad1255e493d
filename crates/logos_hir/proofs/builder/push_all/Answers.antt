use Rattle.std.proofs.Common.{◌≡◌, false, true, List, [], map, ap, sym, ◌∙◌, arith}
use Rattle.std.proofs.lemmas.Bool.{eqb-true}
use Rattle.logos_hir.specs.declared.hir.Hir.{Hir}
use Rattle.logos_hir.specs.Hir.{tree_of}
use Rattle.logos_hir.specs.inside.BuildSteps.{add_parts, are_apart}
use Rattle.logos_hir.proofs.tree.BuildLemmas.{nil_from_length, first_parts}
use Rattle.logos_hir.proofs.builder.push_all.Goals as goal

pub returns-then-are_apart : goal.returns-then-are_apart
returns-then-are_apart c =
    let inner = map tree_of c.args.inner.items in
    let old = c.args.parts.now in
    let nobody : old.items ≡ [] = nil_from_length old.items (omega (arith, old.ok.0, eqb-true _ _ (sym c.is_empty.ensures ∙ c.if-is_empty.true))) in
    let apart : are_apart false inner ≡ true = ap (λ xs. are_apart false (map tree_of xs)) (sym c.deref.ensures.value) ∙ sym c.are_apart.ensures ∙ c.if-are_apart.true in
    first_parts inner apart ∙ ap (λ (xs : List Hir). add_parts (map tree_of xs) inner) (sym nobody)
