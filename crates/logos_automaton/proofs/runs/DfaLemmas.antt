-- The automaton reads matches one byte late.
use Rattle.std.proofs.Common.{◌≡◌, ℕ, zero, suc, ◌+◌, ◌<◌, ◌↔◌, Bool, false, List, [], ◌∷◌, ◌++◌, length, map, drop, Option, Some, None, option_map, option_and_then, Contains, slice_get, slice_index, slice_index_or, append-nil, refl, sym, ap, ◌∙◌, subst, arith}
use Rattle.std.specs.List.Sorted.{IsStrictlyIncreasing}
use Rattle.std.proofs.lemmas.List.{get_or_default}
use Rattle.std.proofs.lemmas.Option.{same_Some, slice_get-get_or, slice_get-map}
use Rattle.logos_hir.specs.Text.{IsBytes, byte_after}
use Rattle.logos_positions.specs.Core.{Core}
use Rattle.logos_automaton.specs.Keys.{State, state_of, start_state, IsAt, IsNext, IsLast, IsBuilt, automaton_of}
use Rattle.logos_positions.specs.Marks.{Has, IsRising}
use Rattle.logos_automaton.specs.Munch.{Rule, RuleMatches}
use Rattle.logos_automaton.specs.Rules.{AreRuleCores, AreFree}
use Rattle.logos_automaton.specs.Automaton.{Automaton, dfa_next, dfa_after, dfa_at_end, Lists, ReadsOneByteLate}
use Rattle.logos_automaton.specs.declared.key.Key.{Key}
use Rattle.logos_automaton.proofs.runs.RunLemmas.{IsAfter, after_nothing, next_after, lists_by_byte, lists_at_end}
use Rattle.logos_positions.proofs.classes.TextLemmas.{at_drop}

pub rising_increases : (xs : List ℕ) → IsRising xs → IsStrictlyIncreasing xs
rising_increases xs r k lt = r.rise k (k + 1) (omega arith) lt

pub contains_has : (xs : List ℕ) (q : ℕ) → Contains xs q ↔ Has xs q
contains_has xs q = (
  λ c. record { at = c.0; within = c.1; is = get_or_default xs c.0 0 q c.1 ∙ c.2 },
  λ h. (h.at, h.within, get_or_default xs h.at q 0 h.within ∙ h.is),
)

-- the element at a number
pub at_within : (ks : List Key) (i : ℕ) (s : State) → IsAt ks i s → i < length ks
at_within ks i s h = go ks i h.key h.is
  where
    go : (ks : List Key) (i : ℕ) (k : Key) → slice_get ks i ≡ Some k → i < length ks
    go [] i k e = cc
    go (x ∷ ks) zero k e = omega arith
    go (x ∷ ks) (suc i) k e = let r = go ks i k e in omega (arith, r)

pub at_once : (ks : List Key) (i : ℕ) (s r : State) → IsAt ks i s → IsAt ks i r → s ≡ r
at_once ks i s r h g = sym h.same ∙ ap state_of (same_Some _ _ (sym h.is ∙ g.is)) ∙ g.same

pub after_more : (dfa : Automaton) (o : Option ℕ) (xs ys : List ℕ) → dfa_after dfa o (xs ++ ys) ≡ dfa_after dfa (dfa_after dfa o xs) ys
after_more dfa o [] ys = refl
after_more dfa o (x ∷ xs) ys = after_more dfa (dfa_next dfa o x) xs ys

-- the first byte of bytes, and the rest
first_byte : (b : ℕ) (bytes : List ℕ) → IsBytes (b ∷ bytes) → b < 256
first_byte b bytes h = h 0 0 (omega arith)

rest_bytes : (b : ℕ) (bytes : List ℕ) → IsBytes (b ∷ bytes) → IsBytes bytes
rest_bytes b bytes h = λ k d lt. h (suc k) d (omega (arith, lt))

front_bytes : (xs ys : List ℕ) → IsBytes (xs ++ ys) → IsBytes xs
front_bytes [] ys h = λ k d lt. absurd (omega (arith, lt))
front_bytes (x ∷ xs) ys h = λ k d lt. go (front_bytes xs ys (rest_bytes x (xs ++ ys) h)) k d lt
  where
    go : IsBytes xs → (k d : ℕ) → k < length (x ∷ xs) → slice_index_or (x ∷ xs) k d < 256
    go rest zero d lt = first_byte x (xs ++ ys) h
    go rest (suc k) d lt = rest k d (omega (arith, lt))

back_bytes : (xs ys : List ℕ) → IsBytes (xs ++ ys) → IsBytes ys
back_bytes [] ys h = h
back_bytes (x ∷ xs) ys h = back_bytes xs ys (rest_bytes x (xs ++ ys) h)

module _ (ts : List Core) (looks : Bool) (start : ℕ) (ks : List Key) (rows : List (List ℕ)) (ends : List ℕ) (built : IsBuilt ts looks start ks rows ends) where
  pub next_is : (i : ℕ) (s : State) (x : ℕ) → IsAt ks i s → x < 256 →
      (j : ℕ) × (n : State) × (dfa_next (automaton_of start ks rows ends) (Some i) x ≡ Some j) × IsAt ks j n × IsNext ts looks s x n
  next_is i s x at lt =
      let inside = at_within ks i s at in
      let row : slice_get rows i ≡ Some (slice_index_or rows i []) = slice_get-get_or rows i [] (omega (arith, inside, built.rows_count)) in
      let wide = built.rows_are.wide i inside in
      let cell : slice_get (slice_index_or rows i []) x ≡ Some (slice_index (slice_index_or rows i []) x) = slice_get-get_or (slice_index_or rows i []) x 0 (omega (arith, lt, wide)) in
      let to = built.rows_are.rows_are i inside x lt in
      let same : to.from ≡ s = at_once ks i to.from s to.from_is at in (
        slice_index (slice_index_or rows i []) x,
        to.to,
        ap (option_and_then (λ r. slice_get r x)) row ∙ cell,
        to.to_is,
        subst (λ z. IsNext ts looks z x to.to) same to.next,
      )

  pub end_is : (i : ℕ) (s : State) → IsAt ks i s → (j : ℕ) × (n : State) × (slice_get ends i ≡ Some j) × IsAt ks j n × IsLast ts s n
  end_is i s at =
      let inside = at_within ks i s at in
      let cell : slice_get ends i ≡ Some (slice_index ends i) = slice_get-get_or ends i 0 (omega (arith, inside, built.ends_count)) in
      let to = built.rows_are.ends_are i inside in
      let same : to.from ≡ s = at_once ks i to.from s to.from_is at in
      (slice_index ends i, to.to, cell, to.to_is, subst (λ z. IsLast ts z to.to) same to.last)

  pub matches_at : (i : ℕ) (s : State) → IsAt ks i s → slice_get (map (λ k. k.matches.items) ks) i ≡ Some s.matches
  matches_at i s at = slice_get-map (λ k. k.matches.items) ks i ∙ ap (option_map (λ k. k.matches.items)) at.is ∙ ap (λ z. Some z.matches) at.same

  lists_of : (i : ℕ) (s : State) (o : Option ℕ) (P : ℕ → Type 0) → o ≡ Some i → IsAt ks i s → IsRising s.matches → ((k : ℕ) → Has s.matches k ↔ P k) → Lists (automaton_of start ks rows ends) o P
  lists_of i s o P e at rising has = record {
    leaves = s.matches;
    listed = ap (option_and_then (slice_get (map (λ k. k.matches.items) ks))) e ∙ matches_at i s at;
    ascending = rising_increases s.matches rising;
    exactly = λ k. (λ c. (has k).0 ((contains_has s.matches k).0 c), λ p. (contains_has s.matches k).1 ((has k).1 p));
  }

  -- the state after the bytes at the front of the rest
  pub run : (w : List ℕ) → (looks ≡ false → AreFree ts) → (front post : List ℕ) (m i : ℕ) (s : State) → drop m w ≡ front ++ post → IsBytes front → IsAt ks i s → IsAfter w ts m s →
      (j : ℕ) × (n : State) × (dfa_after (automaton_of start ks rows ends) (Some i) front ≡ Some j) × IsAt ks j n × IsAfter w ts (m + length front) n
  run w free [] post m i s is bytes at after = (i, s, refl, at, subst (λ k. IsAfter w ts k s) (omega arith) after)
  run w free (b ∷ front) post m i s is bytes at after =
      let here = at_drop w m b (front ++ post) is in
      let step = next_is i s b at (first_byte b front bytes) in
      let rest = run w free front post (suc m) step.0 step.1 here.1 (rest_bytes b front bytes) step.3 (next_after w ts m s after looks b step.1 free here.0 step.4) in (
        rest.0,
        rest.1,
        ap (λ o. dfa_after (automaton_of start ks rows ends) o front) step.2 ∙ rest.2,
        rest.3,
        subst (λ k. IsAfter w ts k rest.1) (omega arith) rest.4,
      )

  pub reads_late : (rules : List Rule) → AreRuleCores rules ts → (looks ≡ false → AreFree ts) → ReadsOneByteLate rules (automaton_of start ks rows ends)
  reads_late rules are free = record { by_byte = by_byte; at_end = at_end }
    where
      by_byte : (bytes : List ℕ) (b : ℕ) → IsBytes (bytes ++ b ∷ []) →
          Lists (automaton_of start ks rows ends) (dfa_after (automaton_of start ks rows ends) (Some start) (bytes ++ b ∷ [])) (λ leaf. RuleMatches rules leaf (bytes ++ b ∷ []) 0 (length bytes))
      by_byte bytes b ok =
          let w = bytes ++ b ∷ [] in
          let before = run w free bytes (b ∷ []) 0 start start_state refl (front_bytes bytes (b ∷ []) ok) built.start_is (after_nothing w ts) in
          let m : 0 + length bytes ≡ length bytes = omega arith in
          let after : IsAfter w ts (length bytes) before.1 = subst (λ k. IsAfter w ts k before.1) m before.4 in
          let step = next_is before.0 before.1 b before.3 (first_byte b [] (back_bytes bytes (b ∷ []) ok)) in
          let is : slice_get w (length bytes) ≡ Some b = last_byte bytes b in
          lists_of step.0 step.1 _ _ (after_more (automaton_of start ks rows ends) (Some start) bytes (b ∷ []) ∙ ap (λ o. dfa_next (automaton_of start ks rows ends) o b) before.2 ∙ step.2)
          step.3 step.4.matches.set.rising (lists_by_byte w ts (length bytes) before.1 after rules looks b step.1 are is step.4)
        where
          last_byte : (bytes : List ℕ) (b : ℕ) → slice_get (bytes ++ b ∷ []) (length bytes) ≡ Some b
          last_byte [] b = refl
          last_byte (x ∷ bytes) b = last_byte bytes b

      at_end : (bytes : List ℕ) → IsBytes bytes → Lists (automaton_of start ks rows ends) (dfa_at_end (automaton_of start ks rows ends) bytes) (λ leaf. RuleMatches rules leaf bytes 0 (length bytes))
      at_end bytes ok =
          let before = run bytes free bytes [] 0 start start_state (sym (append-nil bytes)) ok built.start_is (after_nothing bytes ts) in
          let m : 0 + length bytes ≡ length bytes = omega arith in
          let after : IsAfter bytes ts (length bytes) before.1 = subst (λ k. IsAfter bytes ts k before.1) m before.4 in
          let last = end_is before.0 before.1 before.3 in
          lists_of last.0 last.1 _ _ (ap (option_and_then (slice_get ends)) before.2 ∙ last.2)
          last.3 last.4.matches.set.rising (lists_at_end bytes ts (length bytes) before.1 after rules last.1 are (no_byte bytes) last.4)
        where
          no_byte : (bytes : List ℕ) → byte_after bytes (length bytes) ≡ None
          no_byte [] = refl
          no_byte (x ∷ bytes) = no_byte bytes
