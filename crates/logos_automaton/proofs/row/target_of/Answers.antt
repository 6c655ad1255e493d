use Rattle.std.proofs.Common.{refl, sym, arith}
use Rattle.logos_automaton.specs.inside.Prepared.{cores_of}
use Rattle.logos_automaton.specs.Keys.{state_of, IsAt, by_byte}
use Rattle.logos_automaton.proofs.row.target_of.Goals as goal

pub step_key-requires-clause-rising : goal.step_key-requires-clause-rising
step_key-requires-clause-rising c =
    c.requires.rising.rising c.args.state (state_of c.in-Some.key.now) (record { key = c.in-Some.key.now; is = sym c.in-Some.ensures.key; same = refl })

pub overflow_cast-result : goal.overflow_cast-result
overflow_cast-result c = omega (arith, c.in_ok-target.ensures.within, c.in_ok-target.ensures.few, c.requires.few)

pub returns-clause-extends : goal.returns-clause-extends
returns-clause-extends c =
    let n = c.in_ok-target.ensures in
    let ts = cores_of c.args.trees.now in
    let here : IsAt c.args.states.now.keys c.args.state (state_of c.in-Some.key.now) = record { key = c.in-Some.key.now; is = sym c.in-Some.ensures.key; same = refl } in
    record {
      grows = n.grows;
      rising = λ h. n.rising h c.in_ok-made-in-Some.ensures.positions.set.rising;
      distinct = n.distinct;
      reached = λ h. n.reached ts c.args.trees.now.looks h
          (by_byte (state_of c.in-Some.key.now) (state_of c.in_ok-made-in-Some.made) c.args.byte c.ranges.byte.fits
          (h.reached c.args.state (state_of c.in-Some.key.now) here) c.in_ok-made-in-Some.ensures);
      longer = n.longer;
      few = n.few;
    }

pub returns-clause-leads : goal.returns-clause-leads
returns-clause-leads c =
    let n = c.in_ok-target.ensures in
    let here : IsAt c.args.states.now.keys c.args.state (state_of c.in-Some.key.now) = record { key = c.in-Some.key.now; is = sym c.in-Some.ensures.key; same = refl } in
    record {
      from = state_of c.in-Some.key.now;
      to = state_of c.in_ok-made-in-Some.made;
      from_is = n.grows.keeps c.args.state (state_of c.in-Some.key.now) here;
      to_is = n.stored;
      next = c.in_ok-made-in-Some.ensures;
    }
