-- Chains of types, by the names and by the indexes of the types.
use Rattle.std.proofs.Common.{◌≡◌, ℕ, zero, suc, ◌+◌, ◌<◌, ◌⊎◌, inl, inr, ⊎_elim, ◌↔◌, List, [], ◌∷◌, ◌++◌, ◌||◌, map, length, drop, get_or, Bool, true, false, cond, IsTrue, slice_index_or, Contains, Bor, refl, sym, ap, ◌∙◌, arith, subst, append_assoc, true≢false}
use Rattle.std.proofs.lemmas.List.{map_push, at_drop_more, length-map}
use Rattle.std.proofs.lemmas.List.Elements.{Contains-push, Contains-push_cases, Contains-append_left}
use Rattle.std.proofs.lemmas.Slice.Eq.{bytes_eq-Decides}
use Rattle.std.specs.Str.{bytes_eq}
use Rattle.std.specs.List.{list_any}
use Rattle.logos_type_params.specs.cycles.Cycles.{targets_of, Leads as Path, one as step, on as steps}
use Rattle.logos_type.specs.declared.type_expr.TypePart.{TypePart}
use Rattle.logos_type.specs.Parts.{name, trees, also, tree_of}
use Rattle.logos_type_params.specs.declared.substitution.TypeParam.{TypeParam}
use Rattle.logos_type_params.specs.Substitution.{ParamValue, param_value}
use Rattle.logos_type_params.specs.SelfReference.{names, some_names, holds, Leads, one, on, Has, texts}
use Rattle.logos_type_params.specs.inside.Chains.{OccursAt, IsHeldAt, Reaches, AreReached, AreMarked}

abbrev pub Text : Type 0
Text = List ℕ

abbrev pub Entries : Type 0
Entries = List (Bor Text × TypeParam)

-- ---- lists of texts

pub same_text : (a b : Text) → bytes_eq a b ≡ true → a ≡ b
same_text a b e = (bytes_eq-Decides a b).0 e

pub eq_text : (a b : Text) → a ≡ b → bytes_eq a b ≡ true
eq_text a b e = (bytes_eq-Decides a b).1 e

other_text : (a b : Text) → bytes_eq a b ≡ false → a ≡ b → ⊥
other_text a b f e = true≢false (sym (eq_text a b e) ∙ f)

pub eq_sym : (a b : Text) → bytes_eq a b ≡ bytes_eq b a
eq_sym a b = go (bytes_eq a b) (bytes_eq b a) refl refl
  where
    go : (x y : Bool) → bytes_eq a b ≡ x → bytes_eq b a ≡ y → bytes_eq a b ≡ bytes_eq b a
    go true true e f = e ∙ sym f
    go false false e f = e ∙ sym f
    go true false e f = absurd (other_text b a f (sym (same_text a b e)))
    go false true e f = absurd (other_text a b e (sym (same_text b a f)))

-- whether a text is among others depends only on them
pub any_texts : (t : Text) (keys : List (Bor Text)) → list_any (λ (k : Bor Text). bytes_eq t k.now) keys ≡ list_any (bytes_eq t) (texts keys)
any_texts t [] = refl
any_texts t (k ∷ keys) = ap (λ b. bytes_eq t k.now || b) (any_texts t keys)

pub any_has : (t : Text) (keys : List Text) → list_any (bytes_eq t) keys ≡ true → Has keys t
any_has t [] h = absurd (true≢false (sym h))
any_has t (k ∷ keys) h = go (bytes_eq t k) refl (any_has t keys)
  where
    go : (b : Bool) → bytes_eq t k ≡ b → (list_any (bytes_eq t) keys ≡ true → Has keys t) → Has (k ∷ keys) t
    go true e rest = inl (sym (same_text t k e))
    go false e rest = inr (rest (rw e at h))

pub any_from_has : (t : Text) (keys : List Text) → Has keys t → list_any (bytes_eq t) keys ≡ true
any_from_has t [] h = absurd h
any_from_has t (k ∷ keys) (inl e) = rw (eq_text t k (sym e)) refl
any_from_has t (k ∷ keys) (inr h) = go (bytes_eq t k) (any_from_has t keys h)
  where
    go : (b : Bool) → list_any (bytes_eq t) keys ≡ true → (b || list_any (bytes_eq t) keys) ≡ true
    go true rest = refl
    go false rest = rest

-- a text is put among others
abbrev pub PutsText : Bor Text → List (Bor Text) → List (Bor Text) → Type 0
PutsText t keys keys' = (q : Bor Text) → list_any (λ (k : Bor Text). bytes_eq q.now k.now) keys' ≡ cond (bytes_eq t.now q.now) true (list_any (λ (k : Bor Text). bytes_eq q.now k.now) keys)

pub any_put : (t : Bor Text) (keys keys' : List (Bor Text)) → PutsText t keys keys' → (x : Text) → list_any (bytes_eq x) (texts keys') ≡ cond (bytes_eq t.now x) true (list_any (bytes_eq x) (texts keys))
any_put t keys keys' put x =
    sym (any_texts x keys') ∙ put (record { ref_ptr = (0, 0); now = x }) ∙ ap (λ (b : Bool). cond (bytes_eq t.now x) true b) (any_texts x keys)

-- ---- the slots of names

once : (ps : List ParamValue) (t : Text) (i j : ℕ) → OccursAt ps t i → OccursAt ps t j → i ≡ j
once [] t i j s k = absurd s
once (p ∷ ps) t zero zero s k = refl
once (p ∷ ps) t zero (suc j) s k = absurd (true≢false (sym s ∙ k.0))
once (p ∷ ps) t (suc i) zero s k = absurd (true≢false (sym k ∙ s.0))
once (p ∷ ps) t (suc i) (suc j) s k = ap suc (once ps t i j s.1 k.1)

one_name : (ps : List ParamValue) (a b : Text) (i : ℕ) → OccursAt ps a i → OccursAt ps b i → a ≡ b
one_name [] a b i s k = absurd s
one_name (p ∷ ps) a b zero s k = sym (same_text p.name a s) ∙ same_text p.name b k
one_name (p ∷ ps) a b (suc i) s k = one_name ps a b i s.1 k.1

pub occurs_within : (ps : List ParamValue) (t : Text) (i : ℕ) → OccursAt ps t i → i < length ps
occurs_within [] t i s = absurd s
occurs_within (p ∷ ps) t zero s = omega arith
occurs_within (p ∷ ps) t (suc i) s = let r = occurs_within ps t i s.1 in omega (arith, r)

-- ---- names that lead on

-- names that hold something have a type
pub declares : (ps : List ParamValue) (from to : Text) → holds ps from to ≡ true → Has (map (λ (p : ParamValue). p.name) ps) from
declares [] from to h = absurd cc
declares (p ∷ ps) from to h = go (bytes_eq p.name from) refl (λ k. declares ps from to k)
  where
    go : (b : Bool) → bytes_eq p.name from ≡ b → (holds ps from to ≡ true → Has (map (λ (q : ParamValue). q.name) ps) from) → Has (map (λ (q : ParamValue). q.name) (p ∷ ps)) from
    go true e rest = inl (same_text p.name from e)
    go false e rest = inr (rest (rw e at h))

slot_of : (ps : List ParamValue) (from to : Text) → holds ps from to ≡ true → (i : ℕ) × OccursAt ps from i
slot_of [] from to h = absurd cc
slot_of (p ∷ ps) from to h = go (bytes_eq p.name from) refl (λ k. slot_of ps from to k)
  where
    go : (b : Bool) → bytes_eq p.name from ≡ b → (holds ps from to ≡ true → (i : ℕ) × OccursAt ps from i) → (i : ℕ) × OccursAt (p ∷ ps) from i
    go true e rest = (0, e)
    go false e rest = let r = rest (rw e at h) in (suc r.0, (e, r.1))

pub start_of : {ps : List ParamValue} {from to : Text} → Leads ps from to → (i : ℕ) × OccursAt ps from i
start_of {ps = ps} (one {from = from} {to = to} h) = slot_of ps from to h
start_of {ps = ps} (on {from = from} {over = over} h l) = slot_of ps from over h

-- ---- slots that are added

module _ (params : List ParamValue) where
  -- none is added
  pub reaches_none : (held : Text → Bool) (old : List ℕ) → ((t : Text) (i : ℕ) → held t ≡ true → OccursAt params t i → ⊥) → Reaches params held old old
  reaches_none held old none = record { each = λ i. (λ c. inl c, ⊎_elim (λ c. c) (λ h. absurd (none h.0 i h.1 h.2))) }

  pub reaches_untyped : (t : Text) (old : List ℕ) → ((i : ℕ) → OccursAt params t i → ⊥) → Reaches params (names (name t)) old old
  reaches_untyped t old none = reaches_none (names (name t)) old (λ x i e s. none i (subst (λ (y : Text). OccursAt params y i) (sym (same_text t x e)) s))

  -- the slot of one name is added
  pub reaches_slot : (t : Text) (i : ℕ) (old new : List ℕ) → OccursAt params t i → new ≡ old ++ i ∷ [] → Reaches params (names (name t)) old new
  reaches_slot t i old new s e = record {
    each = λ j. rw e (
      λ c. ⊎_elim (λ k. inl k) (λ (q : i ≡ j). inr (t, eq_text t t refl, subst (λ (n : ℕ). OccursAt params t n) q s)) (Contains-push_cases old i j c),
      ⊎_elim (λ k. Contains-append_left old (i ∷ []) j k)
          (λ h. let q = once params t i j s (subst (λ (y : Text). OccursAt params y j) (sym (same_text t h.0 h.1)) h.2) in subst (λ (n : ℕ). Contains (old ++ i ∷ []) n) q (Contains-push old i)),
    );
  }

  pub reaches_both : (f g : Text → Bool) (old mid new : List ℕ) → Reaches params f old mid → Reaches params g mid new → Reaches params (λ t. f t || g t) old new
  reaches_both f g old mid new a b = record {
    each = λ i. (
      λ c. ⊎_elim (λ k. ⊎_elim (λ o. inl o) (λ h. inr (h.0, rw h.1 refl, h.2)) ((a.each i).0 k)) (λ h. inr (h.0, right h.0 (f h.0) refl h.1, h.2)) ((b.each i).0 c),
      ⊎_elim (λ o. (b.each i).1 (inl ((a.each i).1 (inl o))))
          (λ h. ⊎_elim (λ e. (b.each i).1 (inl ((a.each i).1 (inr (h.0, e, h.2))))) (λ e. (b.each i).1 (inr (h.0, e, h.2))) (either h.0 (f h.0) refl h.1)),
    );
  }
    where
      right : (t : Text) (x : Bool) → f t ≡ x → g t ≡ true → (f t || g t) ≡ true
      right t true e h = rw e refl
      right t false e h = rw e h

      either : (t : Text) (x : Bool) → f t ≡ x → (f t || g t) ≡ true → (f t ≡ true) ⊎ (g t ≡ true)
      either t true e h = inl e
      either t false e h = inr (rw e at h)

-- the parts of a type, one after another, where a result for the rest completes to a result for the
-- whole
pub reaches_on : (params : List ParamValue) (Whole : List ℕ → Type 0) (items : List TypePart) (k : ℕ) (p : TypePart) (old mid : List ℕ) →
    ((new : List ℕ) → Reaches params (some_names (trees (map tree_of (drop k items)))) old new → Whole new) → k < length items → p ≡ get_or items k p →
    Reaches params (names (tree_of p)) old mid →
    (new : List ℕ) → Reaches params (some_names (trees (map tree_of (drop (k + 1) items)))) mid new → Whole new
reaches_on params Whole items k p old mid completes h e first new rest =
    let front : trees (map tree_of (drop k items)) ≡ also (tree_of p) (trees (map tree_of (drop (k + 1) items))) =
    at_drop_more (λ ps. trees (map tree_of ps)) items k p h ∙ ap (λ (q : TypePart). also (tree_of q) (trees (map tree_of (drop (k + 1) items)))) (sym e) in
    completes new (rw front (reaches_both params (names (tree_of p)) (some_names (trees (map tree_of (drop (k + 1) items)))) old mid new first rest))

-- ---- chains by slots

-- each type has the list of the slots to which it leads, where a result for the rest completes
-- the whole
pub reached_on : (params : List ParamValue) {L : Type 0} (items : L → List ℕ) (es : Entries) (k : ℕ) (e : Bor Text × TypeParam) (old new : List L) (list : L) →
    ((left : List (List ℕ)) → AreReached params (map param_value (drop k es)) left → AreReached params params (map items old ++ left)) → k < length es → e ≡ get_or es k e →
    Reaches params (names (tree_of e.1.part)) [] (items list) → new ≡ old ++ list ∷ [] →
    (left : List (List ℕ)) → AreReached params (map param_value (drop (k + 1) es)) left → AreReached params params (map items new ++ left)
reached_on params items es k e old new list completes lt at first put left rest =
    let front : map param_value (drop k es) ≡ param_value e ∷ map param_value (drop (k + 1) es) =
    at_drop_more (map param_value) es k e lt ∙ ap (λ (d : Bor Text × TypeParam). param_value d ∷ map param_value (drop (k + 1) es)) (sym at) in
    let whole = completes (items list ∷ left) (rw front (first, rest)) in
    let same : map items new ++ left ≡ map items old ++ items list ∷ left =
    ap (λ (l : List (List ℕ)). l ++ left) (ap (map items) put ∙ map_push items old list) ∙ append_assoc (map items old) (items list ∷ []) left in
    rw same whole

reached_length : (whole ps : List ParamValue) (lists : List (List ℕ)) → AreReached whole ps lists → length lists ≡ length ps
reached_length whole [] [] r = refl
reached_length whole [] (l ∷ lists) r = absurd r
reached_length whole (p ∷ ps) [] r = absurd r
reached_length whole (p ∷ ps) (l ∷ lists) r = ap suc (reached_length whole ps lists r.1)

contains_none : (i : ℕ) → Contains [] i → ⊥
contains_none i c = let lt = c.1 in omega (arith, lt)

targets : (whole ps : List ParamValue) (lists : List (List ℕ)) → AreReached whole ps lists → (a : Text) (i : ℕ) → OccursAt ps a i → (j : ℕ) → Contains (targets_of lists i) j ↔ IsHeldAt whole (holds ps a) j
targets whole [] lists r a i s j = absurd s
targets whole (p ∷ ps) [] r a i s j = absurd r
targets whole (p ∷ ps) (l ∷ lists) r a zero s j = (
  λ c. ⊎_elim (λ n. absurd (contains_none j n)) (λ h. (h.0, rw s h.1, h.2)) ((r.0.each j).0 c),
  λ h. (r.0.each j).1 (inr (h.0, (let e = h.1 in rw s at e), h.2)),
)
targets whole (p ∷ ps) (l ∷ lists) r a (suc i) s j =
    let rest = targets whole ps lists r.1 a i s.1 j in
    let off = s.0 in
    (λ c. let h = rest.0 c in (h.0, rw off h.1, h.2), λ h. rest.1 (h.0, (let e = h.1 in rw off at e), h.2))

module _ (params : List ParamValue) (lists : List (List ℕ)) (reached : AreReached params params lists) where
  chain_of : {i j : ℕ} → Path lists i j → (a b : Text) → OccursAt params a i → OccursAt params b j → Leads params a b
  chain_of (step {from = i} {to = j} c) a b s k =
      let h = (targets params params lists reached a i s j).0 c in one (subst (λ (x : Text). holds params a x ≡ true) (one_name params h.0 b j h.2 k) h.1)
  chain_of (steps {from = i} {over = o} c l) a b s k = let h = (targets params params lists reached a i s o).0 c in on h.1 (chain_of l h.0 b h.2 k)

  path_of : {a b : Text} → Leads params a b → (i j : ℕ) → OccursAt params a i → OccursAt params b j → Path lists i j
  path_of (one {from = a} {to = b} h) i j s k = step ((targets params params lists reached a i s j).1 (b, h, k))
  path_of (on {from = a} {over = o} h l) i j s k = let p = start_of l in steps ((targets params params lists reached a i s p.0).1 (o, h, p.1)) (path_of l p.0 j p.1 k)

  marked : (marks : List Bool) → ((i : ℕ) → i < length lists → IsTrue (slice_index_or marks i false) ↔ Path lists i i) → AreMarked params marks
  marked marks f t i s =
      let same = reached_length params params lists reached in
      let g = f i (let w = occurs_within params t i s in omega (arith, w, same)) in
      (λ m. chain_of (g.0 m) t t s s, λ l. g.1 (path_of l i i s s))

-- the marks if the lists have more than their items
pub marked_by : (params : List ParamValue) {L : Type 0} (items : L → List ℕ) (lists : List L) → AreReached params params (map items lists) → (marks : List Bool) →
    ((i : ℕ) → i < length lists → IsTrue (slice_index_or marks i false) ↔ Path (map items lists) i i) → AreMarked params marks
marked_by params items lists reached marks f =
    let same = length-map lists items in
    marked params (map items lists) reached marks (λ i h. f i (omega (arith, h, same)))

-- there are as many lists as types
pub as_many : (es : Entries) {L : Type 0} (items : L → List ℕ) (lists : List L) → AreReached (map param_value es) (map param_value es) (map items lists) → length lists ≡ length es
as_many es items lists reached =
    sym (length-map lists items) ∙ reached_length (map param_value es) (map param_value es) (map items lists) reached ∙ length-map es param_value
