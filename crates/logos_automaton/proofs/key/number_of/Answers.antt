use Rattle.logos_automaton.proofs.keys.KeyLemmas.{same_state, grows, stays_rising, stays_distinct, stays_reached, stays_few}
use Rattle.logos_automaton.proofs.key.number_of.Goals as goal

pub returns-clause-stored : goal.returns-clause-stored
returns-clause-stored c =
    let h = c.in_ok-i.ensures.stored in
    record { key = h.0; is = h.1; same = same_state c.args.key h.0 h.2 }

pub returns-clause-grows : goal.returns-clause-grows
returns-clause-grows c = grows _ c.args.key _ c.in_ok-i.ensures.keys

pub returns-clause-rising : goal.returns-clause-rising
returns-clause-rising c = stays_rising _ c.args.key _ c.in_ok-i.ensures.keys

pub returns-clause-distinct : goal.returns-clause-distinct
returns-clause-distinct c = stays_distinct _ c.args.key _ c.in_ok-i.ensures.keys

pub returns-clause-reached : goal.returns-clause-reached
returns-clause-reached c = λ ts looks. stays_reached _ c.args.key ts looks _ c.in_ok-i.ensures.keys

pub returns-clause-longer : goal.returns-clause-longer
returns-clause-longer c = (stays_few _ c.args.key _ c.in_ok-i.ensures.keys).0

pub returns-clause-few : goal.returns-clause-few
returns-clause-few c = (stays_few _ c.args.key _ c.in_ok-i.ensures.keys).1
