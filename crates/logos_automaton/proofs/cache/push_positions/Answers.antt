use Rattle.logos_automaton.proofs.keys.StepsLemmas.{left_none, left_some, push_none, push_some}
use Rattle.logos_automaton.proofs.cache.push_positions.Goals as goal

pub returns-in_default-get-clause-positions : goal.returns-in_default-get-clause-positions
returns-in_default-get-clause-positions c =
    push_none c.args.steps.now c.args.live c.args.byte c.in-Some.of_tree c.deref.result.now c.args.positions.now.items c.in-Some.ensures.lookup c.deref.ensures.value c.in_default-get.ensures.lookup

pub returns-in_default-get-clause-left : goal.returns-in_default-get-clause-left
returns-in_default-get-clause-left c =
    left_none c.args.steps.now c.args.live c.args.byte c.in-Some.of_tree c.deref.result.now c.in-Some.ensures.lookup c.deref.ensures.value c.in_default-get.ensures.lookup

pub returns-clause-positions : goal.returns-clause-positions
returns-clause-positions c =
    push_some c.args.steps.now c.args.live c.args.byte c.in-Some.of_tree c.deref.result.now c.in-Some-get.step c.args.positions.now.items _ c.deref-2.result.now
    c.in-Some.ensures.lookup c.deref.ensures.value c.in-Some-get.ensures.lookup c.deref-2.ensures.value c.in_ok-extend_from_slice.ensures.items

pub returns-clause-left : goal.returns-clause-left
returns-clause-left c =
    left_some c.args.steps.now c.args.live c.args.byte c.in-Some.of_tree c.deref.result.now c.in-Some-get.step c.in-Some.ensures.lookup c.deref.ensures.value c.in-Some-get.ensures.lookup
