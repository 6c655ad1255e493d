-- The targets of a fork are there.
use Rattle.std.proofs.Common.{◌≡◌, ℕ, suc, ◌<◌, ◌≤◌, ◌⊎◌, ⊎_elim, Bool, true, false, IfSome, List, [], ◌∷◌, length, find, Option, Some, None, option_map, slice_get, sym, ◌∙◌, subst, arith, rules, All, cond}
use Rattle.std.proofs.lemmas.Option.{slice_get_within, get_or_from_slice_get}
use Rattle.std.proofs.Math.ListN.{get_or-eq_default}
use Rattle.logos_code.specs.Code.{CodeValue, Condition, Fork, by_conditions, by_table}
use Rattle.logos_code.specs.Headline.{NamesFork, NamesState, NamesCondition}
use Rattle.logos_code.specs.Runs.{passes, target}

some_none : {A : Type 0} {a : A} → None ≡ Some a → ⊥
some_none h = cc

-- a property of each element holds of the one at an index
pub All-slice_get : {A : Type 0} (P : A → Type 0) (xs : List A) (i : ℕ) (x : A) → All P xs → slice_get xs i ≡ Some x → P x
All-slice_get P xs i x all is = rw (get_or_from_slice_get xs i x x is) at (all i x (slice_get_within xs i x is))

-- the result in a list, if something is
pub All-find : {A : Type 0} (P : A → Type 0) (p : A → Bool) (xs : List A) → All P xs → IfSome (find p xs) P
All-find P p [] all = search rules
All-find P p (x ∷ xs) all = go (p x) (All-find P p xs (λ i d h. all (suc i) d (omega arith)))
  where
    go : (b : Bool) → IfSome (find p xs) P → IfSome (cond b (Some x) (find p xs)) P
    go true later = all 0 x (omega arith)
    go false later = later

-- a target of a fork is there
pub target_there : (code : CodeValue) (fork : Fork) (b t : ℕ) → NamesFork code fork → target code fork b ≡ Some t → t < length code.states
target_there code (by_conditions edges) b t names is = go (find (λ edge. passes code edge.0 b) edges) is
    (All-find (λ edge. NamesCondition code edge.0 × NamesState code edge.1) (λ edge. passes code edge.0 b) edges names)
  where
    go : (o : Option (Condition × ℕ)) → option_map (λ edge. edge.1) o ≡ Some t → IfSome o (λ edge. NamesCondition code edge.0 × NamesState code edge.1) → t < length code.states
    go None e n = absurd (some_none e)
    go (Some edge) e n = let f : edge.1 ≡ t = cc in subst (λ s. s < length code.states) f n.1
target_there code (by_table entries) b t names is = ⊎_elim inside outside (either b (length entries))
  where
    either : (a b : ℕ) → (a < b) ⊎ (b ≤ a)
    either a b = grind arith

    inside : b < length entries → t < length code.states
    inside h = rw is at (names.1 b None h)

    outside : length entries ≤ b → t < length code.states
    outside h = absurd (some_none (sym (get_or-eq_default entries None h) ∙ is))
