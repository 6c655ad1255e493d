use Rattle.std.proofs.Common.{◌≡◌, ◌-◌, ◌<◌, length-set, slice_get, vec_len, sym, ◌∙◌, subst, rules, arith}
use Rattle.logos_automaton.specs.inside.Steps.{MakesFrom, tree_view, viewed}
use Rattle.logos_automaton.proofs.keys.TreeStepsLemmas.{if_some, made_before, more_steps, no_steps}
use Rattle.logos_automaton.proofs.keys.WalkLemmas.{free_at}
use Rattle.logos_automaton.proofs.tree_steps.construction.steps_of.Goals as goal

pub index_by-requires-clause-known : goal.index_by-requires-clause-known
index_by-requires-clause-known c =
    let i = c.loop-byte.invariant in
    let byte = c.loop-byte.byte in
    if_some c.index_before-known.result _ (λ k. k < vec_len c.loop-byte.found)
    (λ k h. subst (λ j. j < vec_len c.loop-byte.found) (sym h.2) (let t = i.steps.there (byte - 1) (omega (arith, h.0)) in omega (arith, t, c.loop-byte.found.ok.0)))
    c.index_before-known.ensures

pub index_by-requires-clause-made : goal.index_by-requires-clause-made
index_by-requires-clause-made c =
    let i = c.loop-byte.invariant in
    let byte = c.loop-byte.byte in
    let trees = c.args.trees.now in
    let view = tree_view c.args.state.now in
    let found = c.loop-byte.found.items in
    if_some c.index_before-known.result _ (λ k. MakesFrom trees.nodes.now trees.starts.now view byte (viewed (slice_get found k)))
    (λ k h. subst (λ j. MakesFrom trees.nodes.now trees.starts.now view byte (viewed (slice_get found j))) (sym h.2)
    (made_before trees.nodes.now trees.starts.now view trees.looks (λ node is e. free_at trees.nodes.now view.tree node c.requires.state.there is (c.requires.prepared.free e)) c.first_in-first.result byte _ h.0 c.loop-byte-test.true c.first_in-first.ensures h.1
    (i.steps.make (byte - 1) (omega (arith, h.0)))))
    c.index_before-known.ensures

pub loop-byte-init : goal.loop-byte-init
loop-byte-init c = record {
  size = search rules;
  few = search rules;
  steps = no_steps c.args.trees.now.nodes.now c.args.trees.now.starts.now (tree_view c.args.state.now) _ _;
}

pub loop-byte-preserved : goal.loop-byte-preserved
loop-byte-preserved c =
    let i = c.loop-byte.invariant in
    let n = c.in_ok-by_byte.ensures in
    let trees = c.args.trees.now in
    record {
      size = length-set c.loop-byte.by_byte c.loop-byte.byte c.in_ok-by_byte.field-0 ∙ i.size;
      few = omega (arith, n.few, i.few);
      steps = more_steps trees.nodes.now trees.starts.now (tree_view c.args.state.now) c.loop-byte.found.items c.index_by.new.found.items c.loop-byte.by_byte c.loop-byte.byte c.in_ok-by_byte.field-0
          (omega (arith, i.size, c.loop-byte-test.true)) (λ j lt. n.keeps j (omega (arith, lt, c.loop-byte.found.ok.0))) (omega (arith, n.longer, c.loop-byte.found.ok.0, c.index_by.new.found.ok.0))
          (omega (arith, n.within, c.index_by.new.found.ok.0)) n.made i.steps;
    }

pub returns : goal.returns
returns c =
    let all : c.loop-byte.byte ≡ 256 = omega arith in
    rw (← all) c.loop-byte.invariant.steps
