use Rattle.std.proofs.Common.{◌≡◌, ◌<◌, ◌-◌, map, sym, ap, ◌∙◌, arith}
use Rattle.std.proofs.lemmas.Result.{err_from_is_err_and}
use Rattle.std.proofs.lemmas.List.{at_drop_all}
use Rattle.logos_type.specs.Parts.{name, whole, Trees, trees, tree_of}
use Rattle.logos_type_params.specs.Substitution.{token, stays, named, put, inside, name_here, type_here, put_inside, type_inside, SomePasses, Passes}
use Rattle.logos_type.proofs.PartTrees.{tree-Leaf, tree-Name, tree-Whole, tree-Still}
use Rattle.logos_type_params.proofs.SubstitutionLemmas.{continues, finished, stopped, if_deep-map, rest_front, still_after, still_passes}
use Rattle.logos_type_params.specs.inside.Given.{params_of}
use Rattle.logos_type_params.proofs.substitution.+after.Goals as goal

pub name_after-returns-then-levels-eq0-clause-err : goal.name_after-returns-then-levels-eq0-clause-err
name_after-returns-then-levels-eq0-clause-err t c = let z : c.args.levels ≡ 0 = omega (arith, c.if-levels-eq0.true) in name_here z

pub name_after-returns-in_err-after-in-Parts-clause-err : goal.name_after-returns-in_err-after-in-Parts-clause-err
name_after-returns-in_err-after-in-Parts-clause-err t c =
    let p = err_from_is_err_and c.from_residual.result c.from_residual.ensures.1 in
    let allowed : 0 < c.args.levels = omega (arith, c.if-levels-eq0.false) in
    let P : Type 0 = SomePasses (params_of c.args.params) (c.args.levels - 1) (trees (map tree_of c.in-Parts.parts.now)) in
    rw (p.1, p.2) (if_deep-map P (Passes (params_of c.args.params) c.args.levels (name c.args.text.now)) (λ h. put_inside allowed (sym c.in-Parts.ensures) h) _ c.in_err-after-in-Parts.ensures.err)

pub name_after-returns-in-Nothing-clause-ok : goal.name_after-returns-in-Nothing-clause-ok
name_after-returns-in-Nothing-clause-ok t c =
    let allowed : 0 < c.args.levels = omega (arith, c.if-levels-eq0.false) in
    rw (tree-Name c.args.text) (stays allowed (sym c.in-Nothing.ensures))

pub name_after-returns-in-Name-clause-ok : goal.name_after-returns-in-Name-clause-ok
name_after-returns-in-Name-clause-ok t c =
    let allowed : 0 < c.args.levels = omega (arith, c.if-levels-eq0.false) in
    rw (tree-Name c.in-Name.other) (named allowed (sym c.in-Name.ensures))

pub name_after-returns-in_ok-after-in-Parts-clause-ok : goal.name_after-returns-in_ok-after-in-Parts-clause-ok
name_after-returns-in_ok-after-in-Parts-clause-ok t c =
    let allowed : 0 < c.args.levels = omega (arith, c.if-levels-eq0.false) in
    rw (tree-Whole c.in_ok-after-in-Parts.after) (put allowed (sym c.in-Parts.ensures) c.in_ok-after-in-Parts.ensures.ok)

pub parts_after-returns-in_err-type_after-clause-err : goal.parts_after-returns-in_err-type_after-clause-err
parts_after-returns-in_err-type_after-clause-err t c =
    let p = err_from_is_err_and c.from_residual.result c.from_residual.ensures.1 in
    let e = rest_front c.args.parts.now c.loop-part.part-index c.part-item.result c.loop-part-test.true c.part-item.is in
    rw (p.1, p.2) (stopped (params_of c.args.params) c.args.levels (trees (map tree_of c.args.parts.now)) c.loop-part.after.items _ _ _ c.loop-part.invariant e _ c.in_err-type_after.ensures.err)

pub parts_after-loop-part-preserved : goal.parts_after-loop-part-preserved
parts_after-loop-part-preserved t c =
    let e = rest_front c.args.parts.now c.loop-part.part-index c.part-item.result c.loop-part-test.true c.part-item.is in
    continues (params_of c.args.params) c.args.levels (trees (map tree_of c.args.parts.now)) c.loop-part.after.items _ _ _ _ _ c.loop-part.invariant e c.in_ok-type_after.ensures.ok c.in_ok-push.ensures.items

pub parts_after-returns-clause-ok : goal.parts_after-returns-clause-ok
parts_after-returns-clause-ok t c =
    finished (params_of c.args.params) c.args.levels (trees (map tree_of c.args.parts.now)) c.loop-part.after.items _ c.loop-part.invariant
    (at_drop_all (λ ps. trees (map tree_of ps)) c.args.parts.now c.loop-part.part-index c.loop-part-test.false)

pub type_after-returns-in-Leaf-clause-ok : goal.type_after-returns-in-Leaf-clause-ok
type_after-returns-in-Leaf-clause-ok t c = rw (c.in-Leaf.is, tree-Leaf c.in-Leaf.leaf, tree-Leaf c.set_lifetime.result, c.set_lifetime.ensures) token

pub whole_after-returns-then-levels-eq0-clause-err : goal.whole_after-returns-then-levels-eq0-clause-err
whole_after-returns-then-levels-eq0-clause-err t c = let z : c.args.levels ≡ 0 = omega (arith, c.if-levels-eq0.true) in type_here z

pub whole_after-returns-in_err-after-clause-err : goal.whole_after-returns-in_err-after-clause-err
whole_after-returns-in_err-after-clause-err t c =
    let p = err_from_is_err_and c.from_residual.result c.from_residual.ensures.1 in
    let allowed : 0 < c.args.levels = omega (arith, c.if-levels-eq0.false) in
    let ts : Trees = trees (map tree_of c.args.parts.now) in
    rw (p.1, p.2) (if_deep-map (SomePasses (params_of c.args.params) (c.args.levels - 1) ts) (Passes (params_of c.args.params) c.args.levels (whole ts)) (λ h. type_inside allowed h) _ c.in_err-after.ensures.err)

pub whole_after-returns-clause-ok : goal.whole_after-returns-clause-ok
whole_after-returns-clause-ok t c =
    let allowed : 0 < c.args.levels = omega (arith, c.if-levels-eq0.false) in
    rw (tree-Whole c.in_ok-after.after) (inside allowed c.in_ok-after.ensures.ok)

pub type_after-returns-in-Still-clause-ok : goal.type_after-returns-in-Still-clause-ok
type_after-returns-in-Still-clause-ok t c =
    let e = ap tree_of c.in-Still.is ∙ tree-Still c.in-Still.field-0 in
    still_after (params_of c.args.params) c.args.levels (tree_of c.args.part.now) _ c.still_after.result e c.still_after.ensures.ok

pub type_after-returns-in-Still-clause-err : goal.type_after-returns-in-Still-clause-err
type_after-returns-in-Still-clause-err t c =
    let e = ap tree_of c.in-Still.is ∙ tree-Still c.in-Still.field-0 in
    still_passes (params_of c.args.params) c.args.levels (tree_of c.args.part.now) _ c.still_after.result e c.still_after.ensures.err
