use Rattle.std.proofs.Common.{◌≡◌, ◌<◌, ◌-◌, ◌++◌, [], ◌∷◌, List, map, ap, ◌∙◌, arith, append_assoc}
use Rattle.std.proofs.lemmas.Result.{err_from_is_err_and}
use Rattle.logos_token.specs.Views.{tokens_of}
use Rattle.logos_type.specs.declared.type_expr.TypePart.{TypePart}
use Rattle.logos_type.specs.Parts.{Tree, sign, sign_of, tree_of}
use Rattle.logos_type_reader.specs.Reading.{NoType, NoMove, NoParts, name_alone, a_token, a_bar, a_type, a_still_type, still_tokens, a_nest, deep_name, deep, unended, left_out, here}
use Rattle.logos_type_reader.specs.ReadingViews.{spot_of}
use Rattle.logos_type.proofs.PartTrees.{tree-Leaf, tree-Name, tree-Whole}
use Rattle.logos_type_reader.proofs.ReadingLemmas.{continues, finished, stop_move, stop_type, needed_fault, still_fault, nest_fault, inner_left, begun_falls, begun_rest, formed_type, if_fault-map, move_rest}
use Rattle.logos_type_reader.proofs.reader.+types.Goals as goal

pub parts_at-returns-in_err-bars : goal.parts_at-returns-in_err-bars
parts_at-returns-in_err-bars t c =
    let p = err_from_is_err_and c.from_residual.result c.from_residual.ensures.1 in
    rw (p.1, p.2) (if_fault-map (NoMove c.args.levels (spot_of c.loop-bars.spot)) (NoParts c.args.levels (spot_of c.args.from)) (λ f n. c.loop-bars.invariant.refuses f (here n)) _ c.in_err-bars.ensures)

pub parts_at-loop-bars-smaller : goal.parts_at-loop-bars-smaller
parts_at-loop-bars-smaller t c =
    let h = rw c.in-Some.is at c.in_ok-bars.ensures in
    (move_rest h.2).less

pub parts_at-loop-bars-preserved : goal.parts_at-loop-bars-preserved
parts_at-loop-bars-preserved t c =
    let h = rw c.in-Some.is at c.in_ok-bars.ensures in
    continues c.args.levels (spot_of c.args.from) (map tree_of c.args.parts.now.items) (map tree_of c.loop-bars.parts.items) _ h.0 c.loop-bars.barred c.in-Some.bars (spot_of c.loop-bars.spot) (spot_of c.in-Some.next) c.loop-bars.invariant h.1 h.2

pub parts_at-returns : goal.parts_at-returns
parts_at-returns t c =
    let e = rw c.in_default.is at c.in_ok-bars.ensures in
    let f = finished c.args.levels (spot_of c.args.from) (map tree_of c.args.parts.now.items) (map tree_of c.loop-bars.parts.items) c.loop-bars.barred (spot_of c.loop-bars.spot) c.loop-bars.invariant e.0 in
    (f.0, e.1 ∙ f.1, rw c.after_all.ensures f.2)

pub formed_at-returns-in-Err-clause-err : goal.formed_at-returns-in-Err-clause-err
formed_at-returns-in-Err-clause-err t c = rw c.from.ensures (stop_type c.args.levels c.args.plus (tokens_of c.args.tokens) _ c.requires c.in-Err.ensures)

pub formed_at-returns-then-levels-eq0-clause-err : goal.formed_at-returns-then-levels-eq0-clause-err
formed_at-returns-then-levels-eq0-clause-err t c = let none : c.args.levels ≡ 0 = omega (arith, c.if-levels-eq0.true) in deep none c.requires c.in-Ok.ensures

pub formed_at-parts_at-requires : goal.formed_at-parts_at-requires
formed_at-parts_at-requires t c =
    let f = begun_falls c.args.plus (tokens_of c.args.tokens) _ _ _ c.in-Ok.ensures in
    (omega (arith, f, c.decreases), tt)

pub formed_at-returns-in-Err-parts_at-clause-err : goal.formed_at-returns-in-Err-parts_at-clause-err
formed_at-returns-in-Err-parts_at-clause-err t c =
    let allowed : 0 < c.args.levels = omega (arith, c.if-levels-eq0.false) in
    if_fault-map (NoParts (c.args.levels - 1) _) (NoType c.args.levels c.args.plus (tokens_of c.args.tokens)) (λ f n. unended allowed c.requires c.in-Ok.ensures n) _ c.in-Err-parts_at.ensures

pub formed_at-span_before-requires : goal.formed_at-span_before-requires
formed_at-span_before-requires t c = begun_rest c.args.plus (tokens_of c.args.tokens) _ _ _ c.in-Ok.ensures c.in-Ok-parts_at.ensures.2

pub formed_at-returns-then-opening-barred-clause-err : goal.formed_at-returns-then-opening-barred-clause-err
formed_at-returns-then-opening-barred-clause-err t c =
    let allowed : 0 < c.args.levels = omega (arith, c.if-levels-eq0.false) in
    let r = begun_rest c.args.plus (tokens_of c.args.tokens) _ _ _ c.in-Ok.ensures c.in-Ok-parts_at.ensures.2 in
    rw (c.span_before.ensures r) (left_out r.front allowed c.requires c.in-Ok.ensures c.in-Ok-parts_at.ensures.2 c.if-opening-barred.true r.is)

pub formed_at-returns-clause-ok : goal.formed_at-returns-clause-ok
formed_at-returns-clause-ok t c =
    let allowed : 0 < c.args.levels = omega (arith, c.if-levels-eq0.false) in
    let g = c.in-Ok-parts_at.ensures in
    let e = c.in_ok-add_leaf.ensures ∙ ap (λ (ps : List TypePart). map tree_of ps ++ sign (sign_of c.in-Ok.opening.leaf) ∷ []) c.new-parts.ensures.items in
    rw (tree-Whole c.parts_at.new.parts)
    (formed_type c.args.levels c.args.plus (tokens_of c.args.tokens) _ _ _ _ g.0 _ _ allowed c.requires c.in-Ok.ensures g.2 c.if-opening-barred.false (g.1 ∙ ap (λ (x : List Tree). x ++ g.0) e))

pub type_at-returns-then-levels-eq0-clause-err : goal.type_at-returns-then-levels-eq0-clause-err
type_at-returns-then-levels-eq0-clause-err t c = let none : c.args.levels ≡ 0 = omega (arith, c.if-levels-eq0.true) in deep_name none c.in-Some.ensures.0

pub type_at-returns-clause-ok : goal.type_at-returns-clause-ok
type_at-returns-clause-ok t c = let allowed : 0 < c.args.levels = omega (arith, c.if-levels-eq0.false) in rw (tree-Name c.in-Some.name, c.in-Some.ensures.1) (name_alone allowed c.in-Some.ensures.0)

pub move_on-returns-in-Err : goal.move_on-returns-in-Err
move_on-returns-in-Err t c = rw c.from.ensures (stop_move c.args.levels (spot_of c.args.spot) _ c.in-Err.ensures)

pub make_step-returns-in-Take : goal.make_step-returns-in-Take
make_step-returns-in-Take t c =
    let h = rw c.in-Take.is at c.requires in
    c.move_past.ensures c.args.levels (spot_of c.args.spot) (rw (tree-Leaf c.in-Take.leaf) (a_token h))

pub make_step-returns-in-Bar : goal.make_step-returns-in-Bar
make_step-returns-in-Bar t c =
    let h = rw c.in-Bar.is at c.requires in
    c.move_past-in-Bar.ensures c.args.levels (spot_of c.args.spot) (rw (tree-Leaf c.in-Bar.leaf) (a_bar h))

pub make_step-returns-in-Keep : goal.make_step-returns-in-Keep
make_step-returns-in-Keep t c =
    let h = rw c.in-Keep.is at c.requires in
    c.move_past_run.ensures c.args.levels (spot_of c.args.spot) (still_tokens h)

pub move_past_type-returns-in-Ok : goal.move_past_type-returns-in-Ok
move_past_type-returns-in-Ok t c =
    c.move_past.ensures c.args.levels (spot_of c.args.spot) (rw c.after_type.ensures (a_type c.requires c.in-Ok.ensures.ok))

pub move_past_type-returns-in-Err : goal.move_past_type-returns-in-Err
move_past_type-returns-in-Err t c = needed_fault c.args.levels (spot_of c.args.spot) _ _ _ c.requires c.in-Err.ensures.err

pub move_past_still_type-returns-in-Ok : goal.move_past_still_type-returns-in-Ok
move_past_still_type-returns-in-Ok t c =
    c.move_past_still.ensures c.args.levels (spot_of c.args.spot) (rw c.after_type.ensures (a_still_type c.requires c.in-Ok.ensures.ok))

pub move_past_still_type-returns-in-Err : goal.move_past_still_type-returns-in-Err
move_past_still_type-returns-in-Err t c = still_fault c.args.levels (spot_of c.args.spot) _ _ c.requires c.in-Err.ensures.err

pub move_past_nest-parts_at-requires : goal.move_past_nest-parts_at-requires
move_past_nest-parts_at-requires t c =
    let f = inner_left (spot_of c.args.spot) _ (spot_of c.args.opening.1) _ c.requires in
    (omega (arith, f, c.decreases), tt)

pub move_past_nest-returns-in-Err : goal.move_past_nest-returns-in-Err
move_past_nest-returns-in-Err t c = nest_fault c.args.levels (spot_of c.args.spot) _ (spot_of c.args.opening.1) _ _ c.requires c.in-Err.ensures

pub move_past_nest-returns-in-Ok : goal.move_past_nest-returns-in-Ok
move_past_nest-returns-in-Ok t c =
    let g = c.in-Ok.ensures in
    (_, g.1 ∙ ap (λ (x : List Tree). x ++ g.0) c.in_ok-add_leaf.ensures ∙ append_assoc (map tree_of c.args.parts.now.items) (sign (sign_of c.args.opening.0) ∷ []) g.0, rw c.after_type.ensures (a_nest c.requires g.2))

pub make_step-move_past_type-requires : goal.make_step-move_past_type-requires
make_step-move_past_type-requires t c =
    let h = rw c.in-Need.is at c.requires in
    (omega (arith, c.decreases), h)

pub make_step-move_past_still_type-requires : goal.make_step-move_past_still_type-requires
make_step-move_past_still_type-requires t c =
    let h = rw c.in-KeepType.is at c.requires in
    (omega (arith, c.decreases), h)

pub make_step-move_past_nest-requires : goal.make_step-move_past_nest-requires
make_step-move_past_nest-requires t c =
    let h = rw c.in-Nest.is at c.requires in
    (omega (arith, c.decreases), h)

pub move_on-make_step-requires : goal.move_on-make_step-requires
move_on-make_step-requires t c = (omega (arith, c.decreases), c.in-Ok.ensures)

pub type_at-formed_at-requires : goal.type_at-formed_at-requires
type_at-formed_at-requires t c = (omega (arith, c.decreases), c.in_default.ensures)
