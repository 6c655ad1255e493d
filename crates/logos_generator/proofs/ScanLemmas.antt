-- The last mark on the way through a graph, and the number of bytes that can be followed, by one
-- walk over the rest of the input.
use Rattle.std.proofs.Common.{◌≡◌, ℕ, zero, suc, ◌+◌, ◌<◌, ◌≤◌, ◌↔◌, ◌⊎◌, inl, inr, ⊎_elim, true, false, List, [], ◌∷◌, length, take, Option, Some, None, IsSome, option_map, option_and_then, slice_get, nat_lt, refl, ◌∙◌, arith, rules}
use Rattle.std.specs.Option.{option_map_or}
use Rattle.logos_code.specs.Code.{Mark}
use Rattle.logos_code.specs.Runs.{marked}
use Rattle.logos_graph.specs.Graph.{GraphState, next_by, next_at_end, walk, type_after}
use Rattle.logos_generator.specs.Makes.{mark_made}

module _ (graph : List GraphState) where
  -- the mark of a state
  abbrev pub mark_at : ℕ → Option Mark
  mark_at s = option_and_then (λ state. mark_made state.state_type) (slice_get graph s)

  abbrev pub passed : ℕ → ℕ → Option (ℕ × ℕ) → Option (ℕ × ℕ)
  passed s at context = marked (mark_at s) at context

  -- the context after the whole way: state s is entered at the offset `at`, with this rest and this
  -- context
  abbrev pub last_of : ℕ → List ℕ → ℕ → Option (ℕ × ℕ) → Option (ℕ × ℕ)
  last_of s [] at context = option_map_or (λ t. passed t (at + 1) (passed s at context)) (next_at_end graph s) (passed s at context)
  last_of s (b ∷ rest) at context = option_map_or (λ t. last_of t rest (at + 1) (passed s at context)) (next_by graph s b) (passed s at context)

  -- the number of bytes that can be followed
  abbrev pub reach : ℕ → List ℕ → ℕ
  reach s [] = 0
  reach s (b ∷ rest) = option_map_or (λ t. suc (reach t rest)) (next_by graph s b) 0

  -- the mark after n bytes, by its offset
  abbrev pub mark_n : ℕ → List ℕ → ℕ → ℕ → Option (ℕ × ℕ)
  mark_n s rest at n =
      option_and_then (λ type. marked (mark_made type) (at + n) None) (type_after graph s (take n rest) (nat_lt (length rest) n))

  -- some mark is the last one, or there is none
  pub record HasLast (s : ℕ) (rest : List ℕ) (at : ℕ) (result : Option (ℕ × ℕ)) : Type 0 where
    pub n : ℕ
    pub fits : n ≤ length rest + 1
    pub mark : ℕ × ℕ
    pub is : mark_n s rest at n ≡ Some mark
    pub last : (m : ℕ) → n < m → m ≤ length rest + 1 → mark_n s rest at m ≡ None
    pub result_is : result ≡ Some mark

  pub record HasNone (s : ℕ) (rest : List ℕ) (at : ℕ) (context result : Option (ℕ × ℕ)) : Type 0 where
    pub none : (m : ℕ) → m ≤ length rest + 1 → mark_n s rest at m ≡ None
    pub result_is : result ≡ context

  abbrev pub LastView : ℕ → List ℕ → ℕ → Option (ℕ × ℕ) → Option (ℕ × ℕ) → Type 0
  LastView s rest at context result = HasLast s rest at result ⊎ HasNone s rest at context result

  -- marking once more changes nothing
  marked-again : (m : Option Mark) (at other : ℕ) (context : Option (ℕ × ℕ)) → marked m at (marked m other context) ≡ marked m at context
  marked-again None at other context = refl
  marked-again (Some mark) at other context = refl

  pub last_of-remark : (s : ℕ) (rest : List ℕ) (at other : ℕ) (context : Option (ℕ × ℕ)) → last_of s rest at (passed s other context) ≡ last_of s rest at context
  last_of-remark s [] at other context = rw (marked-again (mark_at s) at other context) refl
  last_of-remark s (b ∷ rest) at other context = rw (marked-again (mark_at s) at other context) refl

  -- one step
  pub last_of-step : (s : ℕ) (b : ℕ) (rest : List ℕ) (at : ℕ) (context : Option (ℕ × ℕ)) (t : ℕ) → next_by graph s b ≡ Some t → last_of s (b ∷ rest) at context ≡ last_of t rest (at + 1) (passed s at context)
  last_of-step s b rest at context t e = rw e refl

  pub last_of-stuck : (s : ℕ) (b : ℕ) (rest : List ℕ) (at : ℕ) (context : Option (ℕ × ℕ)) → next_by graph s b ≡ None → last_of s (b ∷ rest) at context ≡ passed s at context
  last_of-stuck s b rest at context e = rw e refl

  pub reach-step : (s : ℕ) (b : ℕ) (rest : List ℕ) (t : ℕ) → next_by graph s b ≡ Some t → reach s (b ∷ rest) ≡ suc (reach t rest)
  reach-step s b rest t e = rw e refl

  pub reach-stuck : (s : ℕ) (b : ℕ) (rest : List ℕ) → next_by graph s b ≡ None → reach s (b ∷ rest) ≡ 0
  reach-stuck s b rest e = rw e refl

  nat_lt-zero : (a : ℕ) → nat_lt a 0 ≡ false
  nat_lt-zero a = search rules

  nat_lt-suc : (a b : ℕ) → nat_lt (suc a) (suc b) ≡ nat_lt a b
  nat_lt-suc a b = grind arith

  -- the mark of the state itself
  pub mark_n-zero : (s : ℕ) (rest : List ℕ) (at : ℕ) → mark_n s rest at 0 ≡ marked (mark_at s) at None
  mark_n-zero s rest at = let k : at + 0 ≡ at = omega arith in rw (nat_lt-zero (length rest), k) (go (slice_get graph s))
    where
      go : (o : Option GraphState) →
          option_and_then (λ type. marked (mark_made type) at None) (option_map (λ state. state.state_type) o)
          ≡ marked (option_and_then (λ state. mark_made state.state_type) o) at None
      go None = refl
      go (Some state) = refl

  mark_n-suc : (s b : ℕ) (rest : List ℕ) (at n t : ℕ) → next_by graph s b ≡ Some t → mark_n s (b ∷ rest) at (suc n) ≡ mark_n t rest (at + 1) n
  mark_n-suc s b rest at n t e = let k : at + suc n ≡ at + 1 + n = omega arith in rw (e, k, nat_lt-suc (length rest) n) refl

  mark_n-stuck : (s b : ℕ) (rest : List ℕ) (at n : ℕ) → next_by graph s b ≡ None → mark_n s (b ∷ rest) at (suc n) ≡ None
  mark_n-stuck s b rest at n e = rw e refl

  not_below : 0 < 0 → ⊥
  not_below h = omega (arith, h)

  not_before : (n : ℕ) → suc n < 0 → ⊥
  not_before n h = omega (arith, h)

  too_many : (m : ℕ) → suc (suc m) ≤ 1 → ⊥
  too_many m h = omega (arith, h)

  -- the mark of the first state is the last one, where none comes after it
  own : (s : ℕ) (rest : List ℕ) (at : ℕ) (context result : Option (ℕ × ℕ)) → result ≡ passed s at context →
      ((m : ℕ) → suc m ≤ length rest + 1 → mark_n s rest at (suc m) ≡ None) → LastView s rest at context result
  own s rest at context result is none = go (mark_at s) refl
    where
      go : (o : Option Mark) → mark_at s ≡ o → LastView s rest at context result
      go None e = inr record {
        none = λ m h. later m h;
        result_is = rw e at is;
      }
        where
          later : (m : ℕ) → m ≤ length rest + 1 → mark_n s rest at m ≡ None
          later zero h = rw e at (mark_n-zero s rest at)
          later (suc m) h = none m h
      go (Some mark) e = inl record {
        n = 0;
        fits = omega arith;
        mark = _;
        is = rw e at (mark_n-zero s rest at);
        last = λ m h k. later m h k;
        result_is = rw e at is;
      }
        where
          later : (m : ℕ) → 0 < m → m ≤ length rest + 1 → mark_n s rest at m ≡ None
          later zero h k = absurd (not_below h)
          later (suc m) h k = none m k

  end_mark : (t at : ℕ) → option_and_then (λ type. marked (mark_made type) at None) (option_map (λ state. state.state_type) (slice_get graph t)) ≡ marked (mark_at t) at None
  end_mark t at = go (slice_get graph t)
    where
      go : (o : Option GraphState) →
          option_and_then (λ type. marked (mark_made type) at None) (option_map (λ state. state.state_type) o)
          ≡ marked (option_and_then (λ state. mark_made state.state_type) o) at None
      go None = refl
      go (Some state) = refl

  pub last_view : (s : ℕ) (rest : List ℕ) (at : ℕ) (context : Option (ℕ × ℕ)) → LastView s rest at context (last_of s rest at context)
  last_view s [] at context = go (next_at_end graph s) refl
    where
      go : (o : Option ℕ) → next_at_end graph s ≡ o → LastView s [] at context (last_of s [] at context)
      go None e = own s [] at context _ (rw e refl) none
        where
          none : (m : ℕ) → suc m ≤ 1 → mark_n s [] at (suc m) ≡ None
          none zero h = rw e refl
          none (suc m) h = absurd (too_many m h)
      go (Some t) e = go2 (mark_at t) refl
        where
          at_end : mark_n s [] at 1 ≡ marked (mark_at t) (at + 1) None
          at_end = rw e (end_mark t (at + 1))

          above : (m : ℕ) → suc (suc m) ≤ 1 → ⊥
          above m h = omega arith

          go2 : (o : Option Mark) → mark_at t ≡ o → LastView s [] at context (last_of s [] at context)
          go2 None f = own s [] at context _ (rw (e, f) refl) none
            where
              none : (m : ℕ) → suc m ≤ 1 → mark_n s [] at (suc m) ≡ None
              none zero h = rw f at at_end
              none (suc m) h = absurd (above m h)
          go2 (Some mark) f = inl record {
            n = 1;
            fits = omega arith;
            mark = _;
            is = rw f at at_end;
            last = λ m h k. absurd (both m h k);
            result_is = rw (e, f) refl;
          }
            where
              both : (m : ℕ) → 1 < m → m ≤ 1 → ⊥
              both m h k = omega arith
  last_view s (b ∷ rest) at context = go (λ t. last_view t rest (at + 1) (passed s at context)) (next_by graph s b) refl
    where
      go : ((t : ℕ) → LastView t rest (at + 1) (passed s at context) (last_of t rest (at + 1) (passed s at context))) →
          (o : Option ℕ) → next_by graph s b ≡ o → LastView s (b ∷ rest) at context (last_of s (b ∷ rest) at context)
      go below None e = own s (b ∷ rest) at context _ (last_of-stuck s b rest at context e) (λ m h. mark_n-stuck s b rest at m e)
      go below (Some t) e = ⊎_elim
          (λ v. inl record {
            n = suc v.n;
            fits = let k = v.fits in omega arith;
            mark = v.mark;
            is = mark_n-suc s b rest at v.n t e ∙ v.is;
            last = λ m h k. later v.n v.last m h k;
            result_is = last_of-step s b rest at context t e ∙ v.result_is;
          })
          (λ v. own s (b ∷ rest) at context _ (last_of-step s b rest at context t e ∙ v.result_is)
          (λ m h. mark_n-suc s b rest at m t e ∙ v.none m (less m h)))
          (below t)
        where
          less : (m : ℕ) → suc m ≤ suc (length rest) + 1 → m ≤ length rest + 1
          less m h = omega arith

          later : (n : ℕ) → ((m : ℕ) → n < m → m ≤ length rest + 1 → mark_n t rest (at + 1) m ≡ None) →
              (m : ℕ) → suc n < m → m ≤ suc (length rest) + 1 → mark_n s (b ∷ rest) at m ≡ None
          later n f zero h k = absurd (not_before n h)
          later n f (suc m) h k = mark_n-suc s b rest at m t e ∙ f m (omega arith) (less m k)

  -- exactly the bytes in reach can be followed
  pub walk_reach : (s : ℕ) (rest : List ℕ) (n : ℕ) → n ≤ length rest → IsSome (walk graph s (take n rest) false) ↔ (n ≤ reach s rest)
  walk_reach s rest zero h = (λ g. omega arith, λ g. refl)
  walk_reach s [] (suc n) h = absurd (none n h)
    where
      none : (n : ℕ) → suc n ≤ 0 → ⊥
      none n g = omega (arith, g)
  walk_reach s (b ∷ rest) (suc n) h = go (λ t. walk_reach t rest n (omega arith)) (next_by graph s b) refl
    where
      go : ((t : ℕ) → IsSome (walk graph t (take n rest) false) ↔ (n ≤ reach t rest)) →
          (o : Option ℕ) → next_by graph s b ≡ o →
          IsSome (walk graph s (b ∷ take n rest) false) ↔ (suc n ≤ reach s (b ∷ rest))
      go below None e = rw e (λ g. absurd (wrong g), λ g. absurd (none g))
        where
          wrong : false ≡ true → ⊥
          wrong g = cc

          none : suc n ≤ 0 → ⊥
          none g = omega arith
      go below (Some t) e = rw e (λ g. let k = (below t).0 g in omega arith, λ g. (below t).1 (omega (arith, g)))

  pub reach-fits : (s : ℕ) (rest : List ℕ) → reach s rest ≤ length rest
  reach-fits s [] = omega arith
  reach-fits s (b ∷ rest) = go (λ t. reach-fits t rest) (next_by graph s b) refl
    where
      go : ((t : ℕ) → reach t rest ≤ length rest) → (o : Option ℕ) → next_by graph s b ≡ o → reach s (b ∷ rest) ≤ suc (length rest)
      go below None e = rw e (omega arith)
      go below (Some t) e = rw e (let k = below t in omega arith)
