-- Nodes that are found.
use Rattle.std.proofs.Common.{◌≡◌, ◌<◌, ◌≤◌, ◌+◌, ◌⊎◌, inl, inr, ⊎_elim, ℕ, List, [], ◌∷◌, ◌++◌, length, drop, get_or, Bool, true, false, not, cond, refl, sym, ◌∙◌, subst, arith}
use Rattle.std.proofs.Math.ListN.{set}
use Rattle.std.proofs.lemmas.List.{get_or-set_same, get_or-set_other, length-set, length-append}
use Rattle.std.proofs.lemmas.List.Elements.{Contains-append_left, Contains-push, Contains-push_cases}
use Rattle.std.proofs.lemmas.List.Sums.{sum_by-set}
use Rattle.std.proofs.lemmas.Bool.{cases_eq}
use Rattle.std.specs.List.{Contains, count_by}
use Rattle.logos_type_params.specs.cycles.inside.Traversals.{Reaches, IsFound}
use Rattle.logos_type_params.proofs.cycles.ListLemmas.{front, contains_cases, contains_first, contains_next, contains_none, contains_past}

-- nothing is added
pub reaches_none : (f : List Bool) (w ts : List ℕ) → ((n : ℕ) → Contains ts n → ⊥) → Reaches ts f w f w
reaches_none f w ts none = record {
  same_length = refl;
  stay = λ n h. h;
  all = λ n h _. absurd (none n h);
  only = λ n h. inl h;
  wait = λ n h. inl h;
  waited = λ n h. h;
  awaited = λ n h. inl h;
  left = refl;
}

only_one : (to n : ℕ) → Contains (to ∷ []) n → to ≡ n
only_one to n h = ⊎_elim (λ (e : to ≡ n). e) (λ k. absurd (contains_none n k)) (contains_cases to [] n h)

-- a number of no node, or of one that is found
pub reaches_old : (to : ℕ) (f : List Bool) (w : List ℕ) → (to < length f → IsFound f to) → Reaches (to ∷ []) f w f w
reaches_old to f w there = record {
  same_length = refl;
  stay = λ n h. h;
  all = λ n h lt. let e = only_one to n h in subst (λ (x : ℕ). IsFound f x) e (there (rw e lt));
  only = λ n h. inl h;
  wait = λ n h. inl h;
  waited = λ n h. h;
  awaited = λ n h. inl h;
  left = refl;
}

module _ (to : ℕ) (f : List Bool) (lt : to < length f) where
  one_less : get_or f to false ≡ false → count_by not (set f to true) + 1 ≡ count_by not f
  one_less e =
      let s = sum_by-set (λ (b : Bool). cond (not b) 1 0) f to true false lt in
      let k : ◌≡◌ {A = ℕ} (cond (not (get_or f to false)) 1 0) 1 = rw e refl in
      omega (arith, s, k)

  found_now : IsFound (set f to true) to
  found_now = get_or-set_same f to true false lt

  found_set : (n : ℕ) → IsFound (set f to true) n → IsFound f n ⊎ (to ≡ n)
  found_set n h = ⊎_elim
      (λ (e : to ≡ n). inr e)
      (λ (ne : to ≡ n → ⊥). inl (sym (get_or-set_other f to n true false (λ e. ne (sym e))) ∙ h))
      (cases_eq to n)

  found_stays : (n : ℕ) → IsFound f n → IsFound (set f to true) n
  found_stays n h = ⊎_elim
      (λ (e : to ≡ n). subst (λ (x : ℕ). IsFound (set f to true) x) e found_now)
      (λ (ne : to ≡ n → ⊥). get_or-set_other f to n true false (λ e. ne (sym e)) ∙ h)
      (cases_eq to n)

  -- a node is added
  pub reaches_new : (w : List ℕ) → get_or f to false ≡ false → Reaches (to ∷ []) f w (set f to true) (w ++ to ∷ [])
  reaches_new w new = record {
    same_length = length-set f to true;
    stay = λ n h. found_stays n h;
    all = λ n h _. subst (λ (x : ℕ). IsFound (set f to true) x) (only_one to n h) found_now;
    only = λ n h. ⊎_elim (λ k. inl k) (λ (e : to ≡ n). inr (subst (λ (x : ℕ). Contains (to ∷ []) x) e (contains_first to []))) (found_set n h);
    wait = λ n h. ⊎_elim (λ k. inl k) (λ (e : to ≡ n). inr (subst (λ (x : ℕ). Contains (w ++ to ∷ []) x) e (Contains-push w to))) (found_set n h);
    waited = λ n h. Contains-append_left w (to ∷ []) n h;
    awaited = λ n h. ⊎_elim (λ k. inl k) (λ (e : to ≡ n). inr (subst (λ (x : ℕ). IsFound (set f to true) x) e found_now)) (Contains-push_cases w to n h);
    left = let o = one_less new in let l = length-append w (to ∷ []) in omega (arith, o, l);
  }

-- one target, and the others
pub reaches_both : (x : ℕ) (xs : List ℕ) (f f1 f2 : List Bool) (w w1 w2 : List ℕ) → Reaches (x ∷ []) f w f1 w1 → Reaches xs f1 w1 f2 w2 → Reaches (x ∷ xs) f w f2 w2
reaches_both x xs f f1 f2 w w1 w2 a b = record {
  same_length = b.same_length ∙ a.same_length;
  stay = λ n h. b.stay n (a.stay n h);
  all = λ n h lt. ⊎_elim
      (λ (e : x ≡ n). b.stay n (a.all n (subst (λ (y : ℕ). Contains (x ∷ []) y) e (contains_first x [])) lt))
      (λ k. b.all n k (let s = a.same_length in omega (arith, s, lt)))
      (contains_cases x xs n h);
  only = λ n h. ⊎_elim
      (λ k. ⊎_elim (λ j. inl j) (λ j. inr (subst (λ (y : ℕ). Contains (x ∷ xs) y) (only_one x n j) (contains_first x xs))) (a.only n k))
      (λ k. inr (contains_next x xs n k))
      (b.only n h);
  wait = λ n h. ⊎_elim
      (λ k. ⊎_elim (λ j. inl j) (λ j. inr (b.waited n j)) (a.wait n k))
      (λ k. inr k)
      (b.wait n h);
  waited = λ n h. b.waited n (a.waited n h);
  awaited = λ n h. ⊎_elim
      (λ k. ⊎_elim (λ j. inl j) (λ j. inr (b.stay n j)) (a.awaited n k))
      (λ k. inr k)
      (b.awaited n h);
  left = b.left ∙ a.left;
}

-- one target after another, where a result for the rest completes to a result for the whole
pub reaches_on : (Whole : List Bool → List ℕ → Type 0) (ts : List ℕ) (k : ℕ) (f f1 : List Bool) (w w1 : List ℕ) →
    ((f2 : List Bool) (w2 : List ℕ) → Reaches (drop k ts) f w f2 w2 → Whole f2 w2) → k < length ts → Reaches (get_or ts k 0 ∷ []) f w f1 w1 →
    (f2 : List Bool) (w2 : List ℕ) → Reaches (drop (k + 1) ts) f1 w1 f2 w2 → Whole f2 w2
reaches_on Whole ts k f f1 w w1 completes lt first f2 w2 rest =
    completes f2 w2 (rw (front ts k lt) (reaches_both (get_or ts k 0) (drop (k + 1) ts) f f1 f2 w w1 w2 first rest))

pub reaches_end : (ts : List ℕ) (k : ℕ) (f : List Bool) (w : List ℕ) → length ts ≤ k → Reaches (drop k ts) f w f w
reaches_end ts k f w past = reaches_none f w (drop k ts) (λ n h. contains_past ts k n past h)
