use Rattle.std.proofs.Common.{◌+◌, subst, sym}
use Rattle.std.proofs.Math.ListN.{drop_of_length-le}
use Rattle.logos_automaton.specs.inside.Steps.{AreSameBy}
use Rattle.logos_automaton.proofs.keys.StepsLemmas.{item_is, next_same, same_after}
use Rattle.logos_automaton.proofs.cache.StateSteps.changes.Goals as goal

pub loop-live-preserved : goal.loop-live-preserved
loop-live-preserved c =
    let i = c.loop-live.invariant in
    let s = c.args.self in
    record {
      kinds = λ x lt unmarked. i.kinds x lt (c.add_changes.ensures x lt unmarked).0;
      same = λ x lt unmarked.
          let added = c.add_changes.ensures x lt unmarked in
          next_same s.steps.now s.lives.now c.loop-live.live-index _ c.loop-live-test.true (item_is s.lives.now c.loop-live.live-index _ c.loop-live-test.true) x (x + 1) added.1 (i.same x lt added.0);
    }

pub returns : goal.returns
returns c = λ x lt unmarked.
    let i = c.loop-live.invariant in
    let s = c.args.self in
    let past = drop_of_length-le s.lives.now c.loop-live-test.false in
    same_after s.steps.now s.lives.now x (x + 1) s.looks (i.same x lt unmarked (subst (λ ls. AreSameBy s.steps.now ls x (x + 1)) (sym past) tt)) (i.kinds x lt unmarked)
