use Rattle.std.proofs.Common.{◌≡◌, [], sym, ap, ◌∙◌, subst, arith, rules, map, drop, append-nil}
use Rattle.std.proofs.lemmas.Result.{IfOk-weaker}
use Rattle.logos_hir.specs.Tree.{trees}
use Rattle.logos_hir.specs.Hir.{tree_of}
use Rattle.logos_positions.specs.inside.Joined.{AreCoresOf}
use Rattle.logos_positions.specs.Node.{core_of}
use Rattle.logos_positions.proofs.trees.IsCoreLemmas.{core_empty, core_look}
use Rattle.logos_positions.proofs.trees.NodeLemmas.{core-Void, core-Empty, core-Look, core-Repeat}
use Rattle.logos_positions.proofs.trees.PartLemmas.{core_concat, core_alternation}
use Rattle.logos_positions.proofs.trees.RepetitionLemmas.{core_repetition, core_no_count, core_no_turn}
use Rattle.logos_positions.proofs.trees.PrepareLemmas.{tree-Empty, tree-Literal, tree-Look, tree-Concat, tree-Alternation, joined_parts, joined_branches, width_of-cores, occur_more, size_at, AreMeasured-push}
use Rattle.logos_hir.specs.declared.hir.Hir.{the_lemmas}
use Rattle.std.proofs.Math.ListN.{drop_of_length-le}
use Rattle.logos_positions.specs.Repeat.{IsOrdered}
use Rattle.logos_positions.proofs.preparation.+prepare.Goals as goal
use Rattle.logos_positions.proofs.preparation.+prepare.Goals.{prepare_repetition-in-Some+else-most-min+else-most-eq0, prepare_repetition-in_default}

pub prepare-join-requires-clause-fits : goal.prepare-join-requires-clause-fits
prepare-join-requires-clause-fits t c =
    let all = rw c.deref-in-Concat.ensures.value at c.in_ok-nodes-in-Concat.ensures.occur in
    let w = width_of-cores _ _ all in
    let size = rw (ap tree_of c.in-Concat.is ∙ tree-Concat c.in-Concat.parts) at c.requires in
    omega (arith, w, size)

pub prepare-join-requires-in-Alternation-clause-fits : goal.prepare-join-requires-in-Alternation-clause-fits
prepare-join-requires-in-Alternation-clause-fits t c =
    let all = rw c.deref-in-Alternation.ensures.value at c.in_ok-nodes-in-Alternation.ensures.occur in
    let w = width_of-cores _ _ all in
    let size = rw (ap tree_of c.in-Alternation.is ∙ tree-Alternation c.in-Alternation.branches) at c.requires in
    omega (arith, w, size)

pub prepare-returns-in-Empty-clause-occurs : goal.prepare-returns-in-Empty-clause-occurs
prepare-returns-in-Empty-clause-occurs t c = rw (c.in-Empty.is, tree-Empty, core-Empty) core_empty

pub prepare-returns-in-Literal-clause-occurs : goal.prepare-returns-in-Literal-clause-occurs
prepare-returns-in-Literal-clause-occurs t c =
    rw (c.in-Literal.is, tree-Literal c.in-Literal.bytes) (rw c.deref.ensures.value at c.prepare_literal.ensures.occurs)

pub prepare-returns-in-Look-clause-occurs : goal.prepare-returns-in-Look-clause-occurs
prepare-returns-in-Look-clause-occurs t c = rw (c.in-Look.is, tree-Look c.in-Look.look, core-Look c.in-Look.look) (core_look c.in-Look.look)

pub prepare-returns-in_ok-nodes-in-Concat-clause-occurs : goal.prepare-returns-in_ok-nodes-in-Concat-clause-occurs
prepare-returns-in_ok-nodes-in-Concat-clause-occurs t c =
    let all = rw c.deref-in-Concat.ensures.value at c.in_ok-nodes-in-Concat.ensures.occur in
    rw (ap tree_of c.in-Concat.is ∙ tree-Concat c.in-Concat.parts)
    (IfOk-weaker _ _ _ (λ node is. core_concat _ _ (joined_parts _ _ _ all is 0)) c.join.ensures.occurs)

pub prepare-returns-in_ok-nodes-in-Alternation-clause-occurs : goal.prepare-returns-in_ok-nodes-in-Alternation-clause-occurs
prepare-returns-in_ok-nodes-in-Alternation-clause-occurs t c =
    let all = rw c.deref-in-Alternation.ensures.value at c.in_ok-nodes-in-Alternation.ensures.occur in
    rw (ap tree_of c.in-Alternation.is ∙ tree-Alternation c.in-Alternation.branches)
    (IfOk-weaker _ _ _ (λ node is. core_alternation _ _ (joined_branches _ _ _ all is 0)) c.join-in-Alternation.ensures.occurs)

pub prepare_all-prepare-requires : goal.prepare_all-prepare-requires
prepare_all-prepare-requires t c =
    let size = size_at c.args.hirs.now c.loop-hir.hir-index c.hir-item.result c.loop-hir-test.true in
    (search (rules, the_lemmas), omega (arith, rw (← c.hir-item.is) at size, c.requires))

pub prepare_all-loop-hir-preserved : goal.prepare_all-loop-hir-preserved
prepare_all-loop-hir-preserved t c = record {
  occur = rw c.in_ok-push.ensures.items (occur_more c.args.hirs.now c.loop-hir.hir-index _ c.loop-hir.nodes.items c.in_ok-node.node c.loop-hir-test.true c.loop-hir.invariant.occur (rw c.hir-item.is at c.in_ok-node.ensures.occurs));
  measured = rw c.in_ok-push.ensures.items (AreMeasured-push c.loop-hir.nodes.items c.in_ok-node.node c.loop-hir.invariant.measured c.in_ok-node.ensures.measured);
}

pub prepare_all-returns-clause-occur : goal.prepare_all-returns-clause-occur
prepare_all-returns-clause-occur t c =
    let past : drop c.loop-hir.hir-index c.args.hirs.now ≡ [] = drop_of_length-le c.args.hirs.now c.loop-hir-test.false in
    let all = c.loop-hir.invariant.occur [] (rw past tt) in
    subst (AreCoresOf (trees (map tree_of c.args.hirs.now))) (append-nil (map core_of c.loop-hir.nodes.items)) all

pub prepare_repetition-returns-then-most-min-clause-occurs : goal.prepare_repetition-returns-then-most-min-clause-occurs
prepare_repetition-returns-then-most-min-clause-occurs t c = λ greedy.
    rw (c.in-Some.is, core-Void) (core_no_count c.args.min c.in-Some.most greedy (tree_of c.args.sub.now) c.if-most-min.true)

pub prepare_repetition-returns-then-most-eq0-clause-occurs : goal.prepare_repetition-returns-then-most-eq0-clause-occurs
prepare_repetition-returns-then-most-eq0-clause-occurs t c = λ greedy.
    let none : c.args.min ≡ 0 = omega arith in
    rw (c.in-Some.is, c.if-most-eq0.true, none, core-Empty) (core_no_turn greedy (tree_of c.args.sub.now))

pub prepare_repetition-returns-clause-occurs : goal.prepare_repetition-returns-clause-occurs
prepare_repetition-returns-clause-occurs t c = λ greedy.
    let is : c.in_ok-new.field-0.value ≡ c.in_ok-body.body = c.in_ok-new.ensures.ok in
    let known : (c.match-max.max ≡ c.args.max) × IsOrdered c.args.min c.args.max = elim c.match-max.branch [
      | prepare_repetition-in-Some+else-most-min+else-most-eq0 w ↦ (w.max-is ∙ sym w.in-Some.is, rw w.in-Some.is (omega arith, omega arith))
      | prepare_repetition-in_default w ↦ (w.max-is, subst (IsOrdered c.args.min) (sym w.in_default.is) tt)
    ] in
    let kept : c.widen.result ≡ c.args.max = c.widen.ensures ∙ known.0 in
    let ordered = known.1 in
    rw (kept, core-Repeat c.args.min c.args.max c.width-each.result c.in_ok-new.field-0, is)
    (core_repetition c.args.min c.args.max greedy (tree_of c.args.sub.now) (core_of c.in_ok-body.body) ordered c.in_ok-body.ensures.occurs)
