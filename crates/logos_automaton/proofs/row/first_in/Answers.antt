use Rattle.std.proofs.Common.{refl, sym}
use Rattle.logos_automaton.specs.Keys.{state_of}
use Rattle.logos_automaton.proofs.row.first_in.Goals as goal

pub first_bytes-requires-clause-rising : goal.first_bytes-requires-clause-rising
first_bytes-requires-clause-rising c =
    rw c.deref.ensures.value (c.requires.rising.rising c.args.state (state_of c.in-Some.key.now) (record { key = c.in-Some.key.now; is = sym c.in-Some.ensures.key; same = refl }))

pub returns : goal.returns
returns c = record {
  state = state_of c.in-Some.key.now;
  at = record { key = c.in-Some.key.now; is = sym c.in-Some.ensures.key; same = refl };
  are = rw (c.deref.ensures.value, c.is_start.ensures) at c.first_bytes.ensures;
}
