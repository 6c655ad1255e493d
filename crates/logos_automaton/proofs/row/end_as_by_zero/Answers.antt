use Rattle.std.proofs.Common.{◌≡◌, ℕ, Bool, List, Some, slice_get, refl, sym, ap, ◌∙◌, arith}
use Rattle.logos_positions.specs.Core.{Core}
use Rattle.logos_automaton.specs.Rules.{AreFree}
use Rattle.logos_automaton.specs.inside.Prepared.{cores_of}
use Rattle.logos_automaton.specs.Keys.{ended_state, state_of, IsAt, IsLast, LeadsTo, by_end}
use Rattle.logos_automaton.specs.declared.key.Key.{Key}
use Rattle.logos_positions.proofs.steps.SeveralLemmas.{no_positions}
use Rattle.logos_automaton.proofs.keys.TargetLemmas.{last_as_next, same_state_at}
use Rattle.logos_automaton.proofs.row.end_as_by_zero.Goals as goal

-- the key with the leaves of the target by the byte 0
ends_with : (ts : List Core) (looks : Bool) → AreFree ts → (ks : List Key) (i j : ℕ) (leads : LeadsTo ts looks ks i 0 j) (key made : Key) → slice_get ks j ≡ Some key →
    state_of made ≡ ended_state key.matches.items → IsLast ts leads.from (state_of made)
ends_with ts looks free ks i j leads key made is e =
    let here : IsAt ks j (state_of key) = record { key = key; is = is; same = refl } in
    let same = same_state_at ks j (state_of key) leads.to here leads.to_is in
    last_as_next ts looks free leads.from leads.to (state_of made) 0 leads.next (e ∙ ap (λ s. ended_state s.matches) same)

pub overflow_cast-result : goal.overflow_cast-result
overflow_cast-result c = omega (arith, c.in_ok-target.ensures.within, c.in_ok-target.ensures.few, c.requires.few)

pub returns-clause-extends : goal.returns-clause-extends
returns-clause-extends c = λ looks.
    let n = c.in_ok-target.ensures in
    let leads = c.requires.leads in
    let made = c.in_ok-made-in-Some.made in
    let ends = ends_with (cores_of c.args.trees.now) c.args.trees.now.looks (c.requires.prepared.free c.requires.free) c.args.states.now.keys c.args.state c.args.by_zero leads
    c.in-Some.key.now made (sym c.in-Some.ensures.key) (rw c.deref.ensures.value at c.in_ok-made-in-Some.ensures) in
    record {
      grows = n.grows;
      rising = λ h. n.rising h (rw ends.positions no_positions.rising);
      distinct = n.distinct;
      reached = λ h. n.reached (cores_of c.args.trees.now) looks h
          (by_end leads.from (state_of made) (h.reached c.args.state leads.from leads.from_is) ends);
      longer = n.longer;
      few = n.few;
    }

pub returns-clause-ends : goal.returns-clause-ends
returns-clause-ends c =
    let n = c.in_ok-target.ensures in
    let leads = c.requires.leads in
    let made = c.in_ok-made-in-Some.made in
    record {
      from = leads.from;
      to = state_of made;
      from_is = n.grows.keeps c.args.state leads.from leads.from_is;
      to_is = n.stored;
      last = ends_with (cores_of c.args.trees.now) c.args.trees.now.looks (c.requires.prepared.free c.requires.free) c.args.states.now.keys c.args.state c.args.by_zero leads
          c.in-Some.key.now made (sym c.in-Some.ensures.key) (rw c.deref.ensures.value at c.in_ok-made-in-Some.ensures);
    }
