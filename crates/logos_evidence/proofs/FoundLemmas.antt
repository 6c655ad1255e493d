-- The last match, step by step, is the first match that a graph finds.
use Rattle.std.proofs.Common.{◌≡◌, ℕ, zero, suc, ◌+◌, ◌<◌, ◌≤◌, ◌⊎◌, Bool, false, List, [], ◌∷◌, length, take, drop, IsSomeAnd, Option, None, Some, option_map, option_and_then, nat_lt, slice_get, refl, sym, ap, ◌∙◌, subst, inl, inr, arith, le-ltb}
use Rattle.std.proofs.lemmas.Bool.{cases_lt}
use Rattle.std.proofs.lemmas.Bool.Decides.{nat_tests}
use Rattle.std.proofs.lemmas.List.{length-drop}
use Rattle.std.proofs.lemmas.Option.{same_Some, slice_get_within, get_or_from_slice_get}
use Rattle.logos_automaton.specs.Munch.{matched}
use Rattle.logos_graph.specs.FinishedGraph.{IsFinished, IsFinishedState, IsFirstState, IsLate}
use Rattle.logos_graph.specs.Found.{mark_of, mark_after, IsLastMark, GraphFinds}
use Rattle.logos_graph.specs.Graph.{GraphState, next_by, next_at_end, walk, type_after}
use Rattle.logos_reduce.specs.Edges.{StateType}
use Rattle.logos_evidence.specs.inside.Lasts.{early_of, last_from}
use Rattle.logos_evidence.specs.inside.Stops.{mark_at, stop_mark}
use Rattle.logos_evidence.proofs.LastLemmas.{LastOf, last_of}

-- ---- A mark at a stop is the mark after that number of bytes

less : (a b : ℕ) → nat_lt (suc a) (suc b) ≡ nat_lt a b
less a b = grind (arith, nat_tests)

module _ (graph : List GraphState) where
  abbrev seen : ℕ → Option StateType → Option (ℕ × ℕ)
  seen n = option_and_then (λ type. mark_of type n)

  abbrev type_in : Option GraphState → Option StateType
  type_in = option_map (λ state. state.state_type)

  in_state : (n : ℕ) (o : Option GraphState) → seen n (type_in o) ≡ option_and_then (λ state. mark_of state.state_type n) o
  in_state n None = refl
  in_state n (Some state) = refl

  in_next : (n : ℕ) (o : Option ℕ) → seen n (option_and_then (λ t. type_in (slice_get graph t)) o) ≡ option_and_then (λ t. mark_at graph t n) o
  in_next n None = refl
  in_next n (Some t) = in_state n (slice_get graph t)

  pub stops : (bytes : List ℕ) (s n stop : ℕ) → stop ≤ length bytes + 1 →
      seen (n + stop) (type_after graph s (take stop bytes) (nat_lt (length bytes) stop)) ≡ stop_mark graph s n bytes stop
  stops bytes s n zero l =
      let flag : nat_lt (length bytes) 0 ≡ false = le-ltb (length bytes) 0 (omega arith) in
      let none : n + 0 ≡ n = omega arith in
      ap (λ (e : Bool). seen (n + 0) (type_after graph s [] e)) flag ∙ ap (λ (m : ℕ). seen m (type_after graph s [] false)) none ∙ in_state n (slice_get graph s)
  stops [] s n (suc zero) l = in_next (n + 1) (next_at_end graph s)
  stops [] s n (suc (suc stop)) l = absurd (omega arith)
  stops (b ∷ bytes) s n (suc stop) l =
      let next : n + suc stop ≡ n + 1 + stop = omega arith in
      ap (λ (e : Bool). seen (n + suc stop) (type_after graph s (b ∷ take stop bytes) e)) (less (length bytes) stop) ∙
      ap (λ (m : ℕ). seen m (type_after graph s (b ∷ take stop bytes) (nat_lt (length bytes) stop))) next ∙
      go (λ t. stops bytes t (n + 1) stop (omega arith)) (next_by graph s b)
    where
      go : ((t : ℕ) → seen (n + 1 + stop) (type_after graph t (take stop bytes) (nat_lt (length bytes) stop)) ≡ stop_mark graph t (n + 1) bytes stop) → (o : Option ℕ) →
          seen (n + 1 + stop) (option_and_then (λ t. type_in (slice_get graph t)) (option_and_then (λ next. walk graph next (take stop bytes) (nat_lt (length bytes) stop)) o)) ≡
          option_and_then (λ t. stop_mark graph t (n + 1) bytes stop) o
      go ih None = refl
      go ih (Some t) = ih t

-- ---- A finished graph

module _ (graph : List GraphState) (leaves : ℕ) (finished : IsFinished graph leaves) where
  late_in : (o : Option GraphState) → IsSomeAnd o (λ last. IsLate last.state_type × (last.eoi ≡ None)) → option_and_then (λ state. state.state_type.early) o ≡ None
  late_in None h = absurd h
  late_in (Some state) h = h.0.0

  ends_in : (s t : ℕ) (o : Option GraphState) → slice_get graph s ≡ o → option_and_then (λ state. state.eoi) o ≡ Some t → early_of graph t ≡ None
  ends_in s t None is e = cc
  ends_in s t (Some state) is e =
      let inside = slice_get_within graph s state is in
      let one : IsFinishedState graph leaves state = subst (IsFinishedState graph leaves) (get_or_from_slice_get graph s state state is) (finished.states s state inside) in
      late_in (slice_get graph t) (one.ends t e)

  pub ends_late : (s t : ℕ) → next_at_end graph s ≡ Some t → early_of graph t ≡ None
  ends_late s t e = ends_in s t (slice_get graph s) refl e

  abbrev IsFirst : Option GraphState → Type 0
  IsFirst o = IsSomeAnd o (IsFirstState graph leaves)

  root_early_in : (o : Option GraphState) → IsFirst o → option_and_then (λ state. state.state_type.early) o ≡ None
  root_early_in None h = absurd h
  root_early_in (Some state) h = h.unmarked.0

  root_mark_of : (type : StateType) (n : ℕ) → type.early ≡ None → type.accept ≡ None → mark_of type n ≡ None
  root_mark_of type n e f = go type.early type.accept e f
    where
      go : (early accept : Option ℕ) → early ≡ None → accept ≡ None → mark_of (record { early = early; accept = accept }) n ≡ None
      go None None e f = refl
      go None (Some k) e f = cc
      go (Some k) accept e f = cc

  root_mark_in : (n : ℕ) (o : Option GraphState) → IsFirst o → option_and_then (λ state. mark_of state.state_type n) o ≡ None
  root_mark_in n None h = refl
  root_mark_in n (Some state) h = root_mark_of state.state_type n h.unmarked.0 h.unmarked.1

  root_end_in : (o : Option GraphState) → IsFirst o → option_and_then (λ state. state.eoi) o ≡ None
  root_end_in None h = refl
  root_end_in (Some state) h = h.no_end

  pub root_early : early_of graph 0 ≡ None
  root_early = root_early_in (slice_get graph 0) finished.first

  root_end : next_at_end graph 0 ≡ None
  root_end = root_end_in (slice_get graph 0) finished.first

  module _ (utf8 : Bool) (bytes : List ℕ) (from : ℕ) where
    abbrev rest : List ℕ
    rest = drop from bytes

    after_stop : (stop : ℕ) → stop ≤ length rest + 1 → mark_after graph utf8 bytes from stop ≡ stop_mark graph 0 0 rest stop
    after_stop stop l =
        let zero_more : 0 + stop ≡ stop = omega arith in
        ap (λ (m : ℕ). seen graph m (type_after graph 0 (take stop rest) (nat_lt (length rest) stop))) (sym zero_more) ∙ stops graph rest 0 0 stop l

    none_first : stop_mark graph 0 0 rest 0 ≡ None
    none_first = root_mark_in 0 (slice_get graph 0) finished.first

    some_bytes : (left : List ℕ) (at : ℕ) (x : ℕ × ℕ) → 0 < at → at ≤ length left + 1 → stop_mark graph 0 0 left at ≡ Some x → 0 < length left
    some_bytes [] zero x l m e = absurd (omega arith)
    some_bytes [] (suc at) x l m e =
        let gone : None ≡ Some x = sym (ap (option_and_then (λ t. mark_at graph t 1)) root_end) ∙ e in
        absurd (cc)
    some_bytes (b ∷ left) at x l m e = omega arith

    by_last : (leaf size : ℕ) → LastOf graph 0 0 rest (Some (leaf, size)) → GraphFinds graph utf8 bytes from (matched leaf (from + size))
    by_last leaf size (inl h) = absurd (let clash : None ≡ Some leaf = sym root_early ∙ h.0 in cc)
    by_last leaf size (inr (at, some, inside, mark, none)) = (
      omega (arith, some_bytes rest at (leaf, size) some inside mark, length-drop from bytes),
      record {
        at = at;
        in_rest = inside;
        size = size;
        mark = after_stop at inside ∙ mark;
        end = refl;
        last = λ n l m. after_stop n m ∙ none n l m;
      },
    )

    pub last_found : (leaf size : ℕ) → last_from graph 0 0 rest ≡ Some (leaf, size) → GraphFinds graph utf8 bytes from (matched leaf (from + size))
    last_found leaf size e = by_last leaf size (subst (LastOf graph 0 0 rest) e (last_of graph ends_late rest 0 0))

    -- where no step has a match, no stop has a mark
    pub no_mark : last_from graph 0 0 rest ≡ None → (stop : ℕ) → stop ≤ length rest + 1 → mark_after graph utf8 bytes from stop ≡ None
    no_mark e zero l = after_stop zero l ∙ none_first
    no_mark e (suc stop) l = after_stop (suc stop) l ∙ (subst (LastOf graph 0 0 rest) e (last_of graph ends_late rest 0 0)).1 (suc stop) (omega arith) l

    one_last : (leaf to other end : ℕ) (x : IsLastMark graph utf8 bytes from leaf to) (y : IsLastMark graph utf8 bytes from other end) → (leaf ≡ other) × (x.size ≡ y.size)
    one_last leaf to other end x y = go (cases_lt x.at y.at) (cases_lt y.at x.at)
      where
        go : (x.at < y.at) ⊎ (y.at ≤ x.at) → (y.at < x.at) ⊎ (x.at ≤ y.at) → (leaf ≡ other) × (x.size ≡ y.size)
        go (inl l) r = absurd (let clash : None ≡ Some (other, y.size) = sym (x.last y.at l y.in_rest) ∙ y.mark in cc)
        go (inr l) (inl m) = absurd (let clash : None ≡ Some (leaf, x.size) = sym (y.last x.at m x.in_rest) ∙ x.mark in cc)
        go (inr l) (inr m) =
            let same : x.at ≡ y.at = omega arith in
            let both : Some (leaf, x.size) ≡ Some (other, y.size) = sym x.mark ∙ ap (mark_after graph utf8 bytes from) same ∙ y.mark in
            let pair : ◌≡◌ {A = ℕ × ℕ} (leaf, x.size) (other, y.size) = same_Some _ _ both in
            (ap (λ p. p.0) pair, ap (λ p. p.1) pair)

    -- a match that is found is the last one, with its size
    pub found_last : (leaf to : ℕ) → GraphFinds graph utf8 bytes from (matched leaf to) → (size : ℕ) × (to ≡ from + size) × (last_from graph 0 0 rest ≡ Some (leaf, size))
    found_last leaf to found = (found.1.size, found.1.end, go (last_from graph 0 0 rest) refl)
      where
        pair_of : (p : ℕ × ℕ) (l t : ℕ) → p.0 ≡ l → p.1 ≡ t → p ≡ (l, t)
        pair_of p l t a b = λ i. (a i, b i)

        go : (o : Option (ℕ × ℕ)) → last_from graph 0 0 rest ≡ o → o ≡ Some (leaf, found.1.size)
        go None e = absurd (let clash : None ≡ Some (leaf, found.1.size) = sym (no_mark e found.1.at found.1.in_rest) ∙ found.1.mark in cc)
        go (Some x) e =
            let other = last_found x.0 x.1 e in
            let same = one_last x.0 (from + x.1) leaf to other.1 found.1 in
            let end = other.1.end in
            let size : x.1 ≡ other.1.size = omega (arith, end) in
            ap Some (pair_of x leaf found.1.size same.0 (size ∙ same.1))
