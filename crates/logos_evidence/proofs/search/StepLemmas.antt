-- Steps that are added, and those that an input takes.
use Rattle.std.proofs.Common.{◌≡◌, ◌⊎◌, ℕ, ◌+◌, ◌<◌, ◌≤◌, Bool, true, false, if◌then◌else◌, List, [], ◌∷◌, ◌++◌, Option, Some, None, IsSomeAnd, option_and_then, length, drop, slice_get, slice_index, refl, sym, ap, subst, inl, inr, ⊎_elim}
use Rattle.std.specs.Prelude.{Contains}
use Rattle.std.proofs.lemmas.List.{drop_all, drop_more}
use Rattle.std.proofs.lemmas.List.Elements.{Contains-append_left, Contains-push_cases}
use Rattle.std.proofs.lemmas.Option.{same_Some, slice_get_within, get_or_from_slice_get}
use Rattle.logos_evidence.specs.search.Covering.{Takes, step_to, end_at}
use Rattle.logos_evidence.specs.search.Machines.{after}
use Rattle.logos_evidence.specs.declared.search.point.Point.{Point}
use Rattle.logos_evidence.specs.declared.search.steps.InputStep.{InputStep}

pub got_contains : {A : Type 0} (xs : List A) (i : ℕ) (x : A) → slice_get xs i ≡ Some x → Contains xs x
got_contains xs i x e = (i, slice_get_within xs i x e, get_or_from_slice_get xs i x x e)

-- ---- A set with one more element, or the same one

pub only_added : {A : Type 0} (found : Bool) (ks ms : List A) (y x : A) → ms ≡ (if found then ks else ks ++ y ∷ []) → Contains ms x → Contains ks x ⊎ (x ≡ y)
only_added true ks ms y x e h = inl (subst (λ l. Contains l x) e h)
only_added false ks ms y x e h = ⊎_elim inl (λ s. inr (sym s)) (Contains-push_cases ks y x (subst (λ l. Contains l x) e h))

pub grows_added : {A : Type 0} (found : Bool) (ks ms : List A) (y x : A) → ms ≡ (if found then ks else ks ++ y ∷ []) → Contains ks x → Contains ms x
grows_added true ks ms y x e h = subst (λ l. Contains l x) (sym e) h
grows_added false ks ms y x e h = subst (λ l. Contains l x) (sym e) (Contains-append_left ks (y ∷ []) x h)

-- ---- Steps that are the same

pub not_end : (from to last : Point) → step_to from to ≡ end_at last → ⊥
not_end from to last e = let clash : false ≡ true = ap (λ (x : InputStep). x.ends) e in cc

pub same_points : (from to at next : Point) → step_to from to ≡ step_to at next → (from ≡ at) × (to ≡ next)
same_points from to at next e = (ap (λ (x : InputStep). x.from) e, ap (λ (x : InputStep). x.to) e)

pub same_end : (at last : Point) → end_at at ≡ end_at last → at ≡ last
same_end at last e = ap (λ (x : InputStep). x.from) e

-- ---- One more byte

module _ (next : Point → ℕ → Option Point) where
  abbrev TakesBy : Point → List ℕ → InputStep → Option Point → Type 0
  TakesBy at bytes step o = IsSomeAnd o (λ t. (step ≡ step_to at t) ⊎ Takes next t bytes step)

  pub takes_here : (at to : Point) (b : ℕ) (bytes : List ℕ) → next at b ≡ Some to → Takes next at (b ∷ bytes) (step_to at to)
  takes_here at to b bytes e = subst (TakesBy at bytes (step_to at to)) (sym e) (inl refl)

  pub takes_later : (at to : Point) (b : ℕ) (bytes : List ℕ) (step : InputStep) → next at b ≡ Some to → Takes next to bytes step → Takes next at (b ∷ bytes) step
  takes_later at to b bytes step e h = subst (TakesBy at bytes step) (sym e) (inr h)

  pub takes_cases : (at to : Point) (b : ℕ) (bytes : List ℕ) (step : InputStep) → next at b ≡ Some to → Takes next at (b ∷ bytes) step →
      (step ≡ step_to at to) ⊎ Takes next to bytes step
  takes_cases at to b bytes step e h = subst (TakesBy at bytes step) e h

  pub takes_none : (at : Point) (b : ℕ) (bytes : List ℕ) (step : InputStep) → next at b ≡ None → Takes next at (b ∷ bytes) step → ⊥
  takes_none at b bytes step e h = subst (TakesBy at bytes step) e h

  -- ---- After several bytes

  pub takes_after : (front : List ℕ) (start at : Point) (bytes : List ℕ) (step : InputStep) → after next start front ≡ Some at → Takes next at bytes step →
      Takes next start (front ++ bytes) step
  takes_after [] start at bytes step e h = subst (λ (p : Point). Takes next p bytes step) (sym (same_Some _ _ e)) h
  takes_after (b ∷ front) start at bytes step e h = go (λ p. takes_after front p at bytes step) (next start b) refl e
    where
      go : ((p : Point) → after next p front ≡ Some at → Takes next at bytes step → Takes next p (front ++ bytes) step) → (o : Option Point) → next start b ≡ o →
          option_and_then (λ p. after next p front) o ≡ Some at → Takes next start (b ∷ front ++ bytes) step
      go ih None is e = cc
      go ih (Some p) is e = takes_later start p b (front ++ bytes) step is (ih p e h)

  pub takes_end : (front : List ℕ) (start at : Point) → after next start front ≡ Some at → Takes next start front (end_at at)
  takes_end [] start at e = ap end_at (sym (same_Some _ _ e))
  takes_end (b ∷ front) start at e = go (λ p. takes_end front p at) (next start b) refl e
    where
      go : ((p : Point) → after next p front ≡ Some at → Takes next p front (end_at at)) → (o : Option Point) → next start b ≡ o →
          option_and_then (λ p. after next p front) o ≡ Some at → Takes next start (b ∷ front) (end_at at)
      go ih None is e = cc
      go ih (Some p) is e = takes_later start p b front (end_at at) is (ih p e)

  -- ---- The steps that are left from an index on

  pub record MoreSteps (input : List ℕ) (i : ℕ) (at to : Point) : Type 0 where
    pub here : (step : InputStep) → step ≡ step_to at to → Takes next at (drop i input) step
    pub later : (step : InputStep) → Takes next to (drop (i + 1) input) step → Takes next at (drop i input) step
    pub cases : (step : InputStep) → Takes next at (drop i input) step → (step ≡ step_to at to) ⊎ Takes next to (drop (i + 1) input) step

  pub more_steps : (input : List ℕ) (i : ℕ) (at to : Point) → i < length input → next at (slice_index input i) ≡ Some to → MoreSteps input i at to
  more_steps input i at to l e =
      let b = slice_index input i in
      let rest = drop (i + 1) input in
      let parts : drop i input ≡ b ∷ rest = drop_more input i 0 l in
      record {
        here = λ step same.
            subst (λ (bs : List ℕ). Takes next at bs step) (sym parts)
            (subst (λ (s : InputStep). Takes next at (b ∷ rest) s) (sym same) (takes_here at to b rest e));
        later = λ step h. subst (λ (bs : List ℕ). Takes next at bs step) (sym parts) (takes_later at to b rest step e h);
        cases = λ step h. takes_cases at to b rest step e (subst (λ (bs : List ℕ). Takes next at bs step) parts h);
      }

  pub steps_stop : (input : List ℕ) (i : ℕ) (at : Point) (step : InputStep) → i < length input → next at (slice_index input i) ≡ None → Takes next at (drop i input) step → ⊥
  steps_stop input i at step l e h =
      let parts : drop i input ≡ slice_index input i ∷ drop (i + 1) input = drop_more input i 0 l in
      takes_none at (slice_index input i) (drop (i + 1) input) step e (subst (λ (bs : List ℕ). Takes next at bs step) parts h)

  pub steps_end : (input : List ℕ) (i : ℕ) (at : Point) → length input ≤ i → Takes next at (drop i input) (end_at at)
  steps_end input i at l = subst (λ (bs : List ℕ). Takes next at bs (end_at at)) (sym (drop_all i input l)) refl

  pub last_step : (input : List ℕ) (i : ℕ) (at : Point) (step : InputStep) → length input ≤ i → Takes next at (drop i input) step → step ≡ end_at at
  last_step input i at step l h = subst (λ (bs : List ℕ). Takes next at bs step) (drop_all i input l) h
