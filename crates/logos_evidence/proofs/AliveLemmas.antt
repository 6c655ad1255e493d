-- How far the bytes can be followed in a graph, and where two graphs part.
use Rattle.std.proofs.Common.{◌≡◌, ℕ, zero, suc, ◌<◌, ◌≤◌, ◌⊎◌, Bool, true, false, ◌&&◌, ◌||◌, List, [], ◌∷◌, length, take, Option, None, Some, is_some, option_and_then, slice_get, slice_index, refl, sym, ap, ◌∙◌, inl, inr, arith}
use Rattle.std.specs.Option.{unwrap_or}
use Rattle.std.proofs.lemmas.Option.{slice_get_past}
use Rattle.logos_graph.specs.Graph.{GraphState, next_by, walk}
use Rattle.logos_evidence.specs.inside.Lasts.{step_to}
use Rattle.logos_evidence.specs.inside.Machines.{is_cut, one_leads}
use Rattle.logos_evidence.proofs.VerdictLemmas.{errors_part}

-- that number of bytes can be followed
abbrev pub alive : List GraphState → ℕ → List ℕ → ℕ → Bool
alive graph s bytes n = is_some (walk graph s (take n bytes) false)

module _ (graph : List GraphState) where
  past : (b : ℕ) → next_by graph (length graph) b ≡ None
  past b = let e : slice_get graph (length graph) ≡ None = slice_get_past graph (length graph) (omega arith) in rw e refl

  -- the first byte
  first : (s b : ℕ) (bytes : List ℕ) → alive graph s (b ∷ bytes) 1 ≡ is_some (next_by graph s b)
  first s b bytes = go (next_by graph s b)
    where
      go : (o : Option ℕ) → is_some (option_and_then (λ t. walk graph t [] false) o) ≡ is_some o
      go None = refl
      go (Some t) = refl

  -- no byte can be followed from past all states
  none : (bytes : List ℕ) (n : ℕ) → 0 < length bytes → alive graph (length graph) bytes (suc n) ≡ false
  none [] n l = absurd (omega arith)
  none (b ∷ bytes) n l = ap (λ (o : Option ℕ). is_some (option_and_then (λ t. walk graph t (take n bytes) false) o)) (past b)

  -- one more byte in front
  pub later : (s b : ℕ) (bytes : List ℕ) (n : ℕ) → 0 < length bytes → alive graph s (b ∷ bytes) (suc (suc n)) ≡ alive graph (step_to graph s b) bytes (suc n)
  later s b bytes n l = go (next_by graph s b)
    where
      go : (o : Option ℕ) → is_some (option_and_then (λ t. walk graph t (take (suc n) bytes) false) o) ≡ alive graph (unwrap_or o (length graph)) bytes (suc n)
      go None = sym (none bytes n l)
      go (Some t) = refl

  -- a relation that follows more bytes follows fewer
  pub fewer : (bytes : List ℕ) (s m n : ℕ) → m ≤ n → alive graph s bytes n ≡ true → alive graph s bytes m ≡ true
  fewer bytes s zero n l e = refl
  fewer [] s (suc m) n l e = refl
  fewer (b ∷ bytes) s (suc m) zero l e = absurd (omega arith)
  fewer (b ∷ bytes) s (suc m) (suc n) l e = go (λ t. fewer bytes t m n (omega arith)) (next_by graph s b) e
    where
      go : ((t : ℕ) → alive graph t bytes n ≡ true → alive graph t bytes m ≡ true) → (o : Option ℕ) →
          is_some (option_and_then (λ t. walk graph t (take n bytes) false) o) ≡ true → is_some (option_and_then (λ t. walk graph t (take m bytes) false) o) ≡ true
      go ih None e = e
      go ih (Some t) e = ih t e

-- ---- Two graphs

xor_is : (a b : Option ℕ) → one_leads a b ≡ false → is_some a ≡ is_some b
xor_is None None e = refl
xor_is None (Some y) e = cc
xor_is (Some x) None e = cc
xor_is (Some x) (Some y) e = refl

is_xor : (a b : Option ℕ) → one_leads a b ≡ true → ((is_some a ≡ true) × (is_some b ≡ false)) ⊎ ((is_some a ≡ false) × (is_some b ≡ true))
is_xor None None e = cc
is_xor None (Some y) e = inr (refl, refl)
is_xor (Some x) None e = inl (refl, refl)
is_xor (Some x) (Some y) e = cc

or_cases : (a b : Bool) → (a || b) ≡ true → (a ≡ true) ⊎ (b ≡ true)
or_cases true b e = inl refl
or_cases false b e = inr e

or_none : (a b : Bool) → (a || b) ≡ false → (a ≡ false) × (b ≡ false)
or_none true b e = cc
or_none false b e = (refl, e)

and_all : (a b c : Bool) → (a && (b && c)) ≡ true → (a ≡ true) × (b ≡ true) × (c ≡ true)
and_all true true c e = (refl, refl, e)
and_all true false c e = cc
and_all false b c e = cc

and_last : (a b c : Bool) → a ≡ true → b ≡ true → (a && (b && c)) ≡ false → c ≡ false
and_last true true c p q e = e
and_last true false c p q e = cc
and_last false b c p q e = cc

module _ (one other : List GraphState) (names others : List ℕ) (utf8 : Bool) where
  abbrev parts : ℕ → ℕ → Bool → List ℕ → Bool
  parts = errors_part one other names others utf8

  -- an offset after the first one, or after a byte
  abbrev pub IsAfter : Bool → ℕ → Type 0
  IsAfter begun at = (begun ≡ true) ⊎ (0 < at)

  -- where the errors do not part, both can be followed as far at each offset at which a character
  -- can begin
  pub together : (bytes : List ℕ) (s t : ℕ) (begun : Bool) → parts s t begun bytes ≡ false → (at : ℕ) → at < length bytes → IsAfter begun at →
      is_cut utf8 (slice_index bytes at) ≡ true → alive one s bytes (suc at) ≡ alive other t bytes (suc at)
  together [] s t begun e at l p q = absurd (omega arith)
  together (b ∷ bytes) s t begun e zero l (inl p) q =
      let same = and_last begun (is_cut utf8 b) (one_leads (next_by one s b) (next_by other t b)) p q (or_none _ _ e).0 in
      first one s b bytes ∙ xor_is (next_by one s b) (next_by other t b) same ∙ sym (first other t b bytes)
  together (b ∷ bytes) s t begun e zero l (inr p) q = absurd (omega arith)
  together (b ∷ bytes) s t begun e (suc at) l p q =
      later one s b bytes at (omega arith) ∙ together bytes (step_to one s b) (step_to other t b) true (or_none _ _ e).1 at (omega arith) (inl refl) q ∙ sym (later other t b bytes at (omega arith))

  -- exactly one can be followed over this byte
  pub record Part (s t : ℕ) (begun : Bool) (bytes : List ℕ) : Type 0 where
    pub at : ℕ
    pub inside : at < length bytes
    pub later_on : IsAfter begun at
    pub cut : is_cut utf8 (slice_index bytes at) ≡ true
    pub apart : ((alive one s bytes (suc at) ≡ true) × (alive other t bytes (suc at) ≡ false)) ⊎ ((alive one s bytes (suc at) ≡ false) × (alive other t bytes (suc at) ≡ true))

  pub parting : (bytes : List ℕ) (s t : ℕ) (begun : Bool) → parts s t begun bytes ≡ true → Part s t begun bytes
  parting [] s t begun e = cc
  parting (b ∷ bytes) s t begun e = go (parting bytes (step_to one s b) (step_to other t b) true) (or_cases _ _ e)
    where
      here : (is_some (next_by one s b) ≡ true) × (is_some (next_by other t b) ≡ false) ⊎ ((is_some (next_by one s b) ≡ false) × (is_some (next_by other t b) ≡ true)) →
          ((alive one s (b ∷ bytes) 1 ≡ true) × (alive other t (b ∷ bytes) 1 ≡ false)) ⊎ ((alive one s (b ∷ bytes) 1 ≡ false) × (alive other t (b ∷ bytes) 1 ≡ true))
      here (inl h) = inl (first one s b bytes ∙ h.0, first other t b bytes ∙ h.1)
      here (inr h) = inr (first one s b bytes ∙ h.0, first other t b bytes ∙ h.1)

      on : (at : ℕ) → 0 < length bytes →
          ((alive one (step_to one s b) bytes (suc at) ≡ true) × (alive other (step_to other t b) bytes (suc at) ≡ false)) ⊎ ((alive one (step_to one s b) bytes (suc at) ≡ false) × (alive other (step_to other t b) bytes (suc at) ≡ true)) →
          ((alive one s (b ∷ bytes) (suc (suc at)) ≡ true) × (alive other t (b ∷ bytes) (suc (suc at)) ≡ false)) ⊎ ((alive one s (b ∷ bytes) (suc (suc at)) ≡ false) × (alive other t (b ∷ bytes) (suc (suc at)) ≡ true))
      on at l (inl h) = inl (later one s b bytes at l ∙ h.0, later other t b bytes at l ∙ h.1)
      on at l (inr h) = inr (later one s b bytes at l ∙ h.0, later other t b bytes at l ∙ h.1)

      go : (parts (step_to one s b) (step_to other t b) true bytes ≡ true → Part (step_to one s b) (step_to other t b) true bytes) →
          ((begun && (is_cut utf8 b && one_leads (next_by one s b) (next_by other t b))) ≡ true) ⊎ (parts (step_to one s b) (step_to other t b) true bytes ≡ true) → Part s t begun (b ∷ bytes)
      go ih (inl e) =
          let all = and_all begun (is_cut utf8 b) (one_leads (next_by one s b) (next_by other t b)) e in
          record { at = 0; inside = omega arith; later_on = inl all.0; cut = all.1; apart = here (is_xor _ _ all.2) }
      go ih (inr e) =
          let p = ih e in
          let l = p.inside in
          record { at = suc p.at; inside = omega arith; later_on = inr (omega arith); cut = p.cut; apart = on p.at (omega (arith, l)) p.apart }
