-- The last match, step by step, is the last mark on the way.
use Rattle.std.proofs.Common.{◌≡◌, ℕ, zero, suc, ◌+◌, ◌-◌, ◌<◌, ◌≤◌, ◌⊎◌, List, [], ◌∷◌, length, Option, None, Some, slice_get, option_and_then, refl, sym, ap, ◌∙◌, subst, inl, inr, arith}
use Rattle.std.specs.Option.{option_or, unwrap_or}
use Rattle.std.proofs.lemmas.Option.{same_Some, slice_get_past}
use Rattle.logos_graph.specs.Found.{mark_of}
use Rattle.logos_graph.specs.Graph.{GraphState, next_by, next_at_end}
use Rattle.logos_evidence.specs.inside.Lasts.{early_of, late_of, seen_by, mark_by, step_to, with_size, last_from}
use Rattle.logos_evidence.specs.inside.Stops.{mark_at, stop_mark}

-- ---- The mark of one state

type_early : (early accept : Option ℕ) (n leaf : ℕ) → early ≡ Some leaf → mark_of (record { accept = accept; early = early }) n ≡ Some (leaf, n)
type_early (Some k) accept n leaf e = let same : k ≡ leaf = same_Some _ _ e in ap (λ l. Some (l, n)) same
type_early None accept n leaf e = cc

type_late : (early accept : Option ℕ) (n : ℕ) → early ≡ None → mark_of (record { accept = accept; early = early }) (n + 1) ≡ with_size n accept
type_late (Some k) accept n e = cc
type_late None None n e = refl
type_late None (Some k) n e = let less : n + 1 - 1 ≡ n = omega arith in ap (λ m. Some (k, m)) less

module _ (graph : List GraphState) where
  abbrev early_in : Option GraphState → Option ℕ
  early_in = option_and_then (λ state. state.state_type.early)

  abbrev late_in : Option GraphState → Option ℕ
  late_in = option_and_then (λ state. state.state_type.accept)

  abbrev mark_in : ℕ → Option GraphState → Option (ℕ × ℕ)
  mark_in n = option_and_then (λ state. mark_of state.state_type n)

  early_mark_in : (o : Option GraphState) (n leaf : ℕ) → early_in o ≡ Some leaf → mark_in n o ≡ Some (leaf, n)
  early_mark_in None n leaf e = cc
  early_mark_in (Some state) n leaf e = type_early state.state_type.early state.state_type.accept n leaf e

  late_mark_in : (o : Option GraphState) (n : ℕ) → early_in o ≡ None → mark_in (n + 1) o ≡ with_size n (late_in o)
  late_mark_in None n e = refl
  late_mark_in (Some state) n e = type_late state.state_type.early state.state_type.accept n e

  early_mark : (s n leaf : ℕ) → early_of graph s ≡ Some leaf → mark_at graph s n ≡ Some (leaf, n)
  early_mark s n leaf e = early_mark_in (slice_get graph s) n leaf e

  late_mark : (s n : ℕ) → early_of graph s ≡ None → mark_at graph s (n + 1) ≡ with_size n (late_of graph s)
  late_mark s n e = late_mark_in (slice_get graph s) n e

  -- ---- All stops

  -- no stop after this one has a mark
  abbrev pub NoneAfter : ℕ → ℕ → List ℕ → ℕ → Type 0
  NoneAfter s n bytes at = (stop : ℕ) → at < stop → stop ≤ length bytes + 1 → stop_mark graph s n bytes stop ≡ None

  abbrev pub IsStop : ℕ → ℕ → List ℕ → ℕ × ℕ → Type 0
  IsStop s n bytes x = (at : ℕ) × (0 < at) × (at ≤ length bytes + 1) × (stop_mark graph s n bytes at ≡ Some x) × NoneAfter s n bytes at

  -- the last mark is the early one of the first state, or that of a later stop
  abbrev pub LastOf : ℕ → ℕ → List ℕ → Option (ℕ × ℕ) → Type 0
  LastOf s n bytes None = (early_of graph s ≡ None) × NoneAfter s n bytes 0
  LastOf s n bytes (Some x) = ((early_of graph s ≡ Some x.0) × (x.1 ≡ n) × NoneAfter s n bytes 0) ⊎ IsStop s n bytes x

  -- where no later stop has a mark
  quiet : (s n : ℕ) (bytes : List ℕ) (early : Option ℕ) → early_of graph s ≡ early → NoneAfter s n bytes 0 → LastOf s n bytes (with_size n early)
  quiet s n bytes None is none = (is, none)
  quiet s n bytes (Some leaf) is none = inl (is, refl, none)

  module _ (ends_late : (s t : ℕ) → next_at_end graph s ≡ Some t → early_of graph t ≡ None) where
    at_end : (s n : ℕ) (next : Option ℕ) → next_at_end graph s ≡ next → LastOf s n [] (with_size n (seen_by graph s next))
    at_end s n None is = quiet s n [] (early_of graph s) refl none
      where
        none : NoneAfter s n [] 0
        none zero l m = absurd (omega arith)
        none (suc stop) l m = ap (option_and_then (λ t. mark_at graph t (n + 1))) is
    at_end s n (Some t) is = go (late_of graph t) refl
      where
        at_one : (late : Option ℕ) → late_of graph t ≡ late → (stop : ℕ) → 0 < stop → stop_mark graph s n [] stop ≡ with_size n late
        at_one late e zero l = absurd (omega arith)
        at_one late e (suc stop) l = ap (option_and_then (λ u. mark_at graph u (n + 1))) is ∙ late_mark t n (ends_late s t is) ∙ ap (with_size n) e

        go : (late : Option ℕ) → late_of graph t ≡ late → LastOf s n [] (with_size n (option_or late (early_of graph s)))
        go None e = quiet s n [] (early_of graph s) refl (λ stop l m. at_one None e stop l)
        go (Some leaf) e = inr (1, omega arith, omega arith, at_one (Some leaf) e 1 (omega arith), λ stop l m. absurd (omega arith))

    -- past all states there are no marks
    nothing : (bytes : List ℕ) (n : ℕ) → last_from graph (length graph) n bytes ≡ None
    nothing bytes n = none_from bytes n (slice_get_past graph (length graph) (omega arith))
      where
        none_from : (bytes : List ℕ) (n : ℕ) → slice_get graph (length graph) ≡ None → last_from graph (length graph) n bytes ≡ None
        none_from [] n e = rw e refl
        none_from (b ∷ bytes) n e =
            let rest = none_from bytes (n + 1) e in
            let next : next_by graph (length graph) b ≡ None = rw e refl in
            let mark : mark_by graph (length graph) b ≡ None = rw (next, e) refl in
            let step : step_to graph (length graph) b ≡ length graph = rw next refl in
            rw (step, rest, mark) refl

    -- a stop after one byte more
    module _ (s n b t : ℕ) (bytes : List ℕ) (is : next_by graph s b ≡ Some t) where
      later : (stop : ℕ) → stop_mark graph s n (b ∷ bytes) (suc stop) ≡ stop_mark graph t (n + 1) bytes stop
      later stop = ap (option_and_then (λ u. stop_mark graph u (n + 1) bytes stop)) is

      none_on : (at : ℕ) → NoneAfter t (n + 1) bytes at → NoneAfter s n (b ∷ bytes) (suc at)
      none_on at none zero l m = absurd (omega arith)
      none_on at none (suc stop) l m = later stop ∙ none stop (omega arith) (omega arith)

      -- where the rest has no mark, that of the next state is the last one, if it has one
      by_late : (late : Option ℕ) → late_of graph t ≡ late → early_of graph t ≡ None → NoneAfter t (n + 1) bytes 0 →
          LastOf s n (b ∷ bytes) (with_size n (option_or late (early_of graph s)))
      by_late None e none rest = quiet s n (b ∷ bytes) (early_of graph s) refl all
        where
          all : NoneAfter s n (b ∷ bytes) 0
          all zero l m = absurd (omega arith)
          all (suc zero) l m = later zero ∙ late_mark t n none ∙ ap (with_size n) e
          all (suc (suc stop)) l m = later (suc stop) ∙ rest (suc stop) (omega arith) (omega arith)
      by_late (Some leaf) e none rest = inr (1, omega arith, omega arith, later zero ∙ late_mark t n none ∙ ap (with_size n) e, none_on zero rest)

      by_rest : (last : Option (ℕ × ℕ)) → LastOf t (n + 1) bytes last → LastOf s n (b ∷ bytes) (option_or last (with_size n (seen_by graph s (Some t))))
      by_rest None rest = by_late (late_of graph t) refl rest.0 rest.1
      by_rest (Some x) (inl rest) =
          let whole : Some (x.0, n + 1) ≡ Some x = ap (λ m. Some (x.0, m)) (sym rest.1) in
          inr (1, omega arith, omega arith, later zero ∙ early_mark t (n + 1) x.0 rest.0 ∙ whole, none_on zero rest.2)
      by_rest (Some x) (inr (at, some, inside, mark, none)) = inr (suc at, omega arith, omega arith, later at ∙ mark, none_on at none)

    -- where a byte leads nowhere
    by_none : (s n b : ℕ) (bytes : List ℕ) → next_by graph s b ≡ None → LastOf s n (b ∷ bytes) (with_size n (seen_by graph s None))
    by_none s n b bytes is = quiet s n (b ∷ bytes) (early_of graph s) refl none
      where
        none : NoneAfter s n (b ∷ bytes) 0
        none zero l m = absurd (omega arith)
        none (suc stop) l m = ap (option_and_then (λ u. stop_mark graph u (n + 1) bytes stop)) is

    pub last_of : (bytes : List ℕ) (s n : ℕ) → LastOf s n bytes (last_from graph s n bytes)
    last_of [] s n = at_end s n (next_at_end graph s) refl
    last_of (b ∷ bytes) s n = go (λ t. last_of bytes t (n + 1)) (next_by graph s b) refl
      where
        go : ((t : ℕ) → LastOf t (n + 1) bytes (last_from graph t (n + 1) bytes)) → (next : Option ℕ) → next_by graph s b ≡ next →
            LastOf s n (b ∷ bytes) (option_or (last_from graph (unwrap_or next (length graph)) (n + 1) bytes) (with_size n (seen_by graph s next)))
        go ih None is = subst (λ (o : Option (ℕ × ℕ)). LastOf s n (b ∷ bytes) (option_or o (with_size n (seen_by graph s None)))) (sym (nothing bytes (n + 1))) (by_none s n b bytes is)
        go ih (Some t) is = by_rest s n b t bytes is (last_from graph t (n + 1) bytes) (ih t)
