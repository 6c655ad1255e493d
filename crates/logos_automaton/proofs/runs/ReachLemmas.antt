-- Each state of the automaton is reached, and each reached state is a state of it.
use Rattle.std.proofs.Common.{◌≡◌, ℕ, ◌<◌, ◌≤◌, ◌⊎◌, inl, inr, Bool, List, [], length, Some, option_and_then, slice_get, slice_index, slice_index_or, sym, ap, ◌∙◌, subst, arith}
use lib.ListN.{length-map}
use mathlib.Core.Logic.{∥∥₁_elim}
use Rattle.std.proofs.lemmas.Bool.{cases_lt}
use Rattle.std.proofs.lemmas.Option.{slice_get-get_or, get_or_from_slice_get}
use Rattle.logos_positions.specs.Core.{Core}
use Rattle.logos_automaton.specs.Keys.{State, IsAt, AreDistinct, AreReached, IsReached, at_start, by_byte, by_end, IsBuilt, automaton_of}
use Rattle.logos_automaton.specs.Automaton.{Automaton, dfa_next}
use Rattle.logos_automaton.specs.Reach.{Way, IsReachable, at_the_start, after_byte, after_end, AreReachable}
use Rattle.logos_automaton.specs.Targets.{LeadWithin, EndWithin}
use Rattle.logos_automaton.specs.declared.key.Key.{Key}
use Rattle.logos_automaton.proofs.runs.DfaLemmas.{next_is, end_is}
use Rattle.logos_automaton.proofs.runs.TotalLemmas.{next_same, last_same}
use Rattle.logos_automaton.proofs.keys.LimitLemmas.{state_at}

not_there : {A : Type 0} → ∥ A ∥₁ → (A → ⊥) → ⊥
not_there t f = ∥∥₁_elim t (λ x y. absurd x) f

module _ (ts : List Core) (looks : Bool) (ks : List Key) (rows : List (List ℕ)) (ends : List ℕ) (built : IsBuilt ts looks 0 ks rows ends) (distinct : AreDistinct ks) (reached : AreReached ts looks ks) where
  abbrev dfa : Automaton
  dfa = automaton_of 0 ks rows ends

  -- the state has a number that is reached
  record IsThere (s : State) : Type 0 where
    number : ℕ
    there : IsAt ks number s
    way : Way dfa number

  way_to : (s : State) → IsReached ts looks s → IsThere s
  way_to _ at_start = record { number = 0; there = built.start_is; way = at_the_start }
  way_to _ (by_byte s next x lt h step) = go (way_to s h)
    where
      go : IsThere s → IsThere next
      go w =
          let n = next_is ts looks 0 ks rows ends built w.number s x w.there lt in
          record {
            number = n.0;
            there = subst (IsAt ks n.0) (next_same ts looks s x n.1 next n.4 step) n.3;
            way = after_byte w.number x n.0 lt w.way n.2;
          }
  way_to _ (by_end s next h last) = go (way_to s h)
    where
      go : IsThere s → IsThere next
      go w =
          let n = end_is ts looks 0 ks rows ends built w.number s w.there in
          record {
            number = n.0;
            there = subst (IsAt ks n.0) (last_same ts s n.1 next n.4 last) n.3;
            way = after_end w.number n.0 w.way n.2;
          }

  pub all_reachable : AreReachable dfa
  all_reachable s lt =
      let count = length-map ks (λ k. k.matches.items) in
      let st = state_at ks s (omega (arith, lt, count)) in
      let w = way_to st.0 (reached.reached s st.0 st.1) in
      ∣ subst (Way dfa) (distinct.distinct w.number s st.0 w.there st.1) w.way ∣₁

module _ (ks : List Key) (rows : List (List ℕ)) (ends : List ℕ) (start_there : 0 < length ks) (rows_there : length rows ≡ length ks) (ends_there : length ends ≡ length ks)
    (leads : LeadWithin rows (length ks)) (ends_within : EndWithin ends (length ks)) where
  abbrev made : Automaton
  made = automaton_of 0 ks rows ends

  byte_within : (s b t : ℕ) → s < length ks → b < 256 → dfa_next made (Some s) b ≡ Some t → t < length ks
  byte_within s b t lt byte e =
      let inside : s < length rows = omega arith in
      let row : slice_get rows s ≡ Some (slice_index_or rows s []) = slice_get-get_or rows s [] inside in
      let cell : slice_get (slice_index_or rows s []) b ≡ Some t = sym (ap (option_and_then (λ (r : List ℕ). slice_get r b)) row) ∙ e in
      let at : slice_index (slice_index_or rows s []) b ≡ t = get_or_from_slice_get (slice_index_or rows s []) b t 0 cell in
      let l = leads s b inside byte in
      omega (arith, at, l)

  end_within : (s t : ℕ) → s < length ks → slice_get ends s ≡ Some t → t < length ks
  end_within s t lt e =
      let inside : s < length ends = omega arith in
      let at : slice_index ends s ≡ t = get_or_from_slice_get ends s t 0 e in
      let l = ends_within s inside in
      omega (arith, at, l)

  way_within : (s : ℕ) → Way made s → s < length ks
  way_within _ at_the_start = start_there
  way_within _ (after_byte s b t byte h e) = byte_within s b t (way_within s h) byte e
  way_within _ (after_end s t h e) = end_within s t (way_within s h) e

  no_way : (s : ℕ) → length ks ≤ s → Way made s → ⊥
  no_way s le w = let l = way_within s w in absurd (omega (arith, l, le))

  pub reachable_within : (s : ℕ) → IsReachable made s → s < length ks
  reachable_within s way = go (cases_lt s (length ks))
    where
      go : (s < length ks) ⊎ (length ks ≤ s) → s < length ks
      go (inl l) = l
      go (inr le) = absurd (not_there way (no_way s le))
