use Rattle.std.proofs.Common.{length, refl, sym}
use Rattle.std.proofs.lemmas.Result.{IfOk-weaker}
use Rattle.logos_automaton.specs.Keys.{state_of, IsAt}
use Rattle.logos_automaton.specs.inside.Prepared.{cores_of}
use Rattle.logos_automaton.specs.inside.Steps.{AreLive, Foresees}
use Rattle.logos_automaton.proofs.keys.StepsLemmas.{next_is}
use Rattle.logos_automaton.proofs.row.live_in.Goals as goal

pub live_trees-requires-clause-rising : goal.live_trees-requires-clause-rising
live_trees-requires-clause-rising c =
    c.requires.rising.rising c.args.state (state_of c.in-Some.key.now) (record { key = c.in-Some.key.now; is = sym c.in-Some.ensures.key; same = refl })

pub returns-clause-foresees : goal.returns-clause-foresees
returns-clause-foresees c =
    let trees = c.args.trees.now in
    let key = c.in-Some.key.now in
    let all = c.live_trees.new.self.steps.items in
    let here : IsAt c.args.states.now.keys c.args.state (state_of key) = record { key = key; is = sym c.in-Some.ensures.key; same = refl } in
    IfOk-weaker c.live_trees.result (λ lives. AreLive trees.nodes.now trees.starts.now key.positions.items key.kind all 0 lives.items (length trees.nodes.now))
    (λ lives. Foresees (cores_of trees) trees.looks c.args.states.now.keys c.args.state all lives.items)
    (λ lives live. record {
      from = state_of key;
      from_is = here;
      next = next_is trees.nodes.now trees.starts.now c.requires.prepared.starts key.positions.items key.kind all trees.looks lives.items key.matches.items live (c.requires.entered (state_of key) here);
    })
    c.live_trees.ensures.live
