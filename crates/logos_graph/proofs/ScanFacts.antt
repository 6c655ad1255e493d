-- The result of a graph, by its marks after each number of bytes, and by one walk over the rest.
use Rattle.std.proofs.Common.{◌≡◌, ◌↔◌, ℕ, zero, suc, ◌+◌, ◌-◌, ◌<◌, ◌≤◌, ◌⊎◌, inl, inr, Bool, false, List, [], ◌∷◌, length, take, drop, Option, Some, None, IsSome, option_map, option_and_then, slice_get, nat_lt, refl, sym, ◌∙◌, ap, arith, rules}
use Rattle.std.specs.Option.{option_map_or}
use Rattle.logos_graph.specs.Found as found
use Rattle.logos_graph.specs.Graph.{GraphState, next_by, next_at_end, walk, type_after}
use Rattle.logos_automaton.specs.Munch.{Found, ended, matched, failed}
use Rattle.logos_graph.specs.inside.Walk.{marked, last_mark, followed, MayEnd, edges_of, GraphFindsByWalk}
use Rattle.logos_reduce.specs.Edges.{StateType, Edges}

-- a mark does not go by the one before
mark_over : (type : StateType) (at : ℕ) (last : Option (ℕ × ℕ)) (p : ℕ × ℕ) → marked type at None ≡ Some p → marked type at last ≡ Some p
mark_over type at last p e = go type.early type.accept e
  where
    go : (e a : Option ℕ) → marked (record { accept = a; early = e }) at None ≡ Some p → marked (record { accept = a; early = e }) at last ≡ Some p
    go (Some l) a q = q
    go None (Some l) q = q
    go None None q = absurd (cc)

mark_none : (type : StateType) (at : ℕ) (last : Option (ℕ × ℕ)) → marked type at None ≡ None → marked type at last ≡ last
mark_none type at last e = go type.early type.accept e
  where
    go : (e a : Option ℕ) → marked (record { accept = a; early = e }) at None ≡ None → marked (record { accept = a; early = e }) at last ≡ last
    go (Some l) a q = absurd (cc)
    go None (Some l) q = absurd (cc)
    go None None q = refl

pub nat_lt-zero : (a : ℕ) → nat_lt a 0 ≡ false
nat_lt-zero a = search rules

nat_lt-suc : (a b : ℕ) → nat_lt (suc a) (suc b) ≡ nat_lt a b
nat_lt-suc a b = grind arith

module _ (graph : List GraphState) where
  abbrev g : Edges ℕ
  g = edges_of graph

  -- the mark after m bytes and one more
  abbrev pub mark_n : ℕ → List ℕ → ℕ → ℕ → Option (ℕ × ℕ)
  mark_n s rest at m = option_and_then (λ type. marked type (at + m) None) (type_after graph s (take (suc m) rest) (nat_lt (length rest) (suc m)))

  -- the mark of a state
  at_state : (t at : ℕ) → option_and_then (λ type. marked type at None) (option_map (λ state. state.state_type) (slice_get graph t)) ≡ marked (g.type_of t) at None
  at_state t at = go (slice_get graph t)
    where
      go : (o : Option GraphState) →
          option_and_then (λ type. marked type at None) (option_map (λ state. state.state_type) o)
          ≡ marked (option_map_or (λ (state : GraphState). state.state_type) o (record { accept = None; early = None })) at None
      go None = refl
      go (Some state) = refl

  mark_here : (s b : ℕ) (rest : List ℕ) (at t : ℕ) → next_by graph s b ≡ Some t → mark_n s (b ∷ rest) at 0 ≡ marked (g.type_of t) at None
  mark_here s b rest at t e =
      let k : at + 0 ≡ at = omega arith in
      rw (e, k, nat_lt-suc (length rest) 0, nat_lt-zero (length rest)) (at_state t at)

  mark_step : (s b : ℕ) (rest : List ℕ) (at m t : ℕ) → next_by graph s b ≡ Some t → mark_n s (b ∷ rest) at (suc m) ≡ mark_n t rest (at + 1) m
  mark_step s b rest at m t e = let k : at + suc m ≡ at + 1 + m = omega arith in rw (e, k, nat_lt-suc (length rest) (suc m)) refl

  mark_stuck : (s b : ℕ) (rest : List ℕ) (at m : ℕ) → next_by graph s b ≡ None → mark_n s (b ∷ rest) at m ≡ None
  mark_stuck s b rest at m e = rw e refl

  mark_end : (s at t : ℕ) → next_at_end graph s ≡ Some t → mark_n s [] at 0 ≡ marked (g.type_of t) at None
  mark_end s at t e = let k : at + 0 ≡ at = omega arith in rw (e, k) (at_state t at)

  mark_no_end : (s at : ℕ) → next_at_end graph s ≡ None → mark_n s [] at 0 ≡ None
  mark_no_end s at e = rw e refl

  -- some mark is the last one, or there is none
  pub record HasLast (s : ℕ) (rest : List ℕ) (at : ℕ) (result : Option (ℕ × ℕ)) : Type 0 where
    pub m : ℕ
    pub fits : m ≤ length rest
    pub mark : ℕ × ℕ
    pub is : mark_n s rest at m ≡ Some mark
    pub last : (k : ℕ) → m < k → k ≤ length rest → mark_n s rest at k ≡ None
    pub result_is : result ≡ Some mark

  pub record HasNone (s : ℕ) (rest : List ℕ) (at : ℕ) (before result : Option (ℕ × ℕ)) : Type 0 where
    pub none : (k : ℕ) → k ≤ length rest → mark_n s rest at k ≡ None
    pub result_is : result ≡ before

  abbrev pub View : ℕ → List ℕ → ℕ → Option (ℕ × ℕ) → Option (ℕ × ℕ) → Type 0
  View s rest at before result = HasLast s rest at result ⊎ HasNone s rest at before result

  only_zero : (k : ℕ) → k ≤ 0 → k ≡ 0
  only_zero k l = omega arith

  end_view : (s at : ℕ) (before : Option (ℕ × ℕ)) → View s [] at before (last_mark g s [] at before)
  end_view s at before = go (next_at_end graph s) refl
    where
      zero_only : (o : Option (ℕ × ℕ)) → mark_n s [] at 0 ≡ o → (k : ℕ) → k ≤ 0 → mark_n s [] at k ≡ o
      zero_only o e k l = ap (mark_n s [] at) (only_zero k l) ∙ e

      marked_view : (t : ℕ) → next_at_end graph s ≡ Some t → (o : Option (ℕ × ℕ)) → marked (g.type_of t) at None ≡ o → View s [] at before (marked (g.type_of t) at before)
      marked_view t e None q = inr record { none = zero_only None (mark_end s at t e ∙ q); result_is = mark_none (g.type_of t) at before q }
      marked_view t e (Some p) q = inl record {
        m = 0;
        fits = omega arith;
        mark = p;
        is = mark_end s at t e ∙ q;
        last = λ k l n. absurd (omega arith);
        result_is = mark_over (g.type_of t) at before p q;
      }

      go : (o : Option ℕ) → next_at_end graph s ≡ o → View s [] at before (option_map_or (λ t. marked (g.type_of t) at before) o before)
      go None e = inr record { none = zero_only None (mark_no_end s at e); result_is = refl }
      go (Some t) e = marked_view t e (marked (g.type_of t) at None) refl

  pub last_view : (rest : List ℕ) (s at : ℕ) (before : Option (ℕ × ℕ)) → View s rest at before (last_mark g s rest at before)
  last_view [] s at before = end_view s at before
  last_view (b ∷ rest) s at before = go (next_by graph s b) refl (last_view rest)
    where
      later : (t : ℕ) → next_by graph s b ≡ Some t → ((k : ℕ) → k ≤ length rest → mark_n t rest (at + 1) k ≡ None) → (k : ℕ) → 0 < k → k ≤ length (b ∷ rest) → mark_n s (b ∷ rest) at k ≡ None
      later t e none zero l n = absurd (omega arith)
      later t e none (suc k) l n = mark_step s b rest at k t e ∙ none k (omega arith)

      up : (t m : ℕ) → next_by graph s b ≡ Some t → ((k : ℕ) → m < k → k ≤ length rest → mark_n t rest (at + 1) k ≡ None) → (k : ℕ) → suc m < k → k ≤ length (b ∷ rest) → mark_n s (b ∷ rest) at k ≡ None
      up t m e last zero l n = absurd (omega arith)
      up t m e last (suc k) l n = mark_step s b rest at k t e ∙ last k (omega arith) (omega arith)

      all : (t : ℕ) → next_by graph s b ≡ Some t → marked (g.type_of t) at None ≡ None → ((k : ℕ) → k ≤ length rest → mark_n t rest (at + 1) k ≡ None) → (k : ℕ) → k ≤ length (b ∷ rest) → mark_n s (b ∷ rest) at k ≡ None
      all t e q none zero n = mark_here s b rest at t e ∙ q
      all t e q none (suc k) n = mark_step s b rest at k t e ∙ none k (omega arith)

      none_after : (t : ℕ) → next_by graph s b ≡ Some t → (result : Option (ℕ × ℕ)) → HasNone t rest (at + 1) (marked (g.type_of t) at before) result →
          (o : Option (ℕ × ℕ)) → marked (g.type_of t) at None ≡ o → View s (b ∷ rest) at before result
      none_after t e result h None q = inr record { none = all t e q h.none; result_is = h.result_is ∙ mark_none (g.type_of t) at before q }
      none_after t e result h (Some p) q = inl record {
        m = 0;
        fits = omega arith;
        mark = p;
        is = mark_here s b rest at t e ∙ q;
        last = later t e h.none;
        result_is = h.result_is ∙ mark_over (g.type_of t) at before p q;
      }

      step : (t : ℕ) → next_by graph s b ≡ Some t → (result : Option (ℕ × ℕ)) → View t rest (at + 1) (marked (g.type_of t) at before) result → View s (b ∷ rest) at before result
      step t e result (inl h) = inl record {
        m = suc h.m;
        fits = let f = h.fits in omega arith;
        mark = h.mark;
        is = mark_step s b rest at h.m t e ∙ h.is;
        last = up t h.m e h.last;
        result_is = h.result_is;
      }
      step t e result (inr h) = none_after t e result h (marked (g.type_of t) at None) refl

      go : (o : Option ℕ) → next_by graph s b ≡ o → ((s at : ℕ) (before : Option (ℕ × ℕ)) → View s rest at before (last_mark g s rest at before)) →
          View s (b ∷ rest) at before (option_map_or (λ t. last_mark g t rest (at + 1) (marked (g.type_of t) at before)) o before)
      go None e ih = inr record { none = λ k l. mark_stuck s b rest at k e; result_is = refl }
      go (Some t) e ih = step t e (last_mark g t rest (at + 1) (marked (g.type_of t) at before)) (ih t (at + 1) (marked (g.type_of t) at before))

  -- the length of a walk
  pub followed_fits : (rest : List ℕ) (s : ℕ) → followed g s rest ≤ length rest
  followed_fits [] s = omega arith
  followed_fits (b ∷ rest) s = go (next_by graph s b) (followed_fits rest)
    where
      go : (o : Option ℕ) → ((s : ℕ) → followed g s rest ≤ length rest) → option_map_or (λ t. followed g t rest + 1) o 0 ≤ length (b ∷ rest)
      go None ih = omega arith
      go (Some t) ih = let l = ih t in omega arith

  pub walk_followed : (rest : List ℕ) (s n : ℕ) → n ≤ length rest → IsSome (walk graph s (take n rest) false) ↔ (n ≤ followed g s rest)
  walk_followed rest s zero l = (λ w. omega arith, λ m. refl)
  walk_followed [] s (suc n) l = absurd (omega arith)
  walk_followed (b ∷ rest) s (suc n) l = go (next_by graph s b) (λ t. walk_followed rest t n (omega arith))
    where
      go : (o : Option ℕ) → ((t : ℕ) → IsSome (walk graph t (take n rest) false) ↔ (n ≤ followed g t rest)) →
          IsSome (option_and_then (λ t. walk graph t (take n rest) false) o) ↔ (suc n ≤ option_map_or (λ t. followed g t rest + 1) o 0)
      go None ih = (λ w. absurd (cc), λ m. absurd (omega arith))
      go (Some t) ih = (λ w. let m = (ih t).0 w in omega arith, λ m. (ih t).1 (omega arith))

  module _ (utf8 : Bool) (bytes : List ℕ) (from : ℕ) (unmarked : found.mark_after graph utf8 bytes from 0 ≡ None) where
    abbrev rest : List ℕ
    rest = drop from bytes

    abbrev placed : Option (ℕ × ℕ) → Option (ℕ × ℕ)
    placed = option_map (λ p. (p.0, from + p.1))

    -- a mark by its offset, and by the length of its match
    placed_mark : (early accept : Option ℕ) (m : ℕ) → marked (record { accept = accept; early = early }) (from + m) None ≡ placed (found.mark_of (record { accept = accept; early = early }) (suc m))
    placed_mark (Some leaf) accept m = let e : from + m + 1 ≡ from + suc m = omega arith in rw e refl
    placed_mark None (Some leaf) m = let e : from + m ≡ from + (suc m - 1) = omega arith in rw e refl
    placed_mark None None m = refl

    mark_is : (m : ℕ) → mark_n 0 rest from m ≡ placed (found.mark_after graph utf8 bytes from (suc m))
    mark_is m = go (type_after graph 0 (take (suc m) rest) (nat_lt (length rest) (suc m)))
      where
        go : (o : Option StateType) → option_and_then (λ type. marked type (from + m) None) o ≡ placed (option_and_then (λ type. found.mark_of type (suc m)) o)
        go None = refl
        go (Some type) = placed_mark type.early type.accept m

    of_none : (o : Option (ℕ × ℕ)) → placed o ≡ None → o ≡ None
    of_none None e = refl
    of_none (Some p) e = absurd (cc)

    of_some : (o : Option (ℕ × ℕ)) (p : ℕ × ℕ) → placed o ≡ Some p → (size : ℕ) × (o ≡ Some (p.0, size)) × (p.1 ≡ from + size)
    of_some None p e = absurd (cc)
    of_some (Some q) p e = let f : (q.0, from + q.1) ≡ p = cc in
        (q.1, ap (λ (r : ℕ × ℕ). Some (r.0, q.1)) f, sym (ap (λ (r : ℕ × ℕ). r.1) f))

    there : (m leaf size : ℕ) → found.mark_after graph utf8 bytes from (suc m) ≡ Some (leaf, size) → mark_n 0 rest from m ≡ Some (leaf, from + size)
    there m leaf size e = mark_is m ∙ ap placed e

    none_there : (m : ℕ) → found.mark_after graph utf8 bytes from (suc m) ≡ None → mark_n 0 rest from m ≡ None
    none_there m e = mark_is m ∙ ap placed e

    none_back : (m : ℕ) → mark_n 0 rest from m ≡ None → found.mark_after graph utf8 bytes from (suc m) ≡ None
    none_back m e = of_none (found.mark_after graph utf8 bytes from (suc m)) (sym (mark_is m) ∙ e)

    clash : (o : Option (ℕ × ℕ)) (p : ℕ × ℕ) → o ≡ None → o ≡ Some p → ⊥
    clash o p e f = cc

    order : (a b : ℕ) → (a < b) ⊎ ((b < a) ⊎ (a ≡ b))
    order a b = grind arith

    -- the last mark, in both forms
    same_mark : (leaf to : ℕ) (result : Option (ℕ × ℕ)) → View 0 rest from None result → found.IsLastMark graph utf8 bytes from leaf to ↔ (result ≡ Some (leaf, to))
    same_mark leaf to result (inr v) = (λ l. absurd (none_at l.at l.in_rest l.mark), λ e. absurd (let n = v.result_is in cc))
      where
        none_at : (at : ℕ) → at ≤ length rest + 1 → {size : ℕ} → found.mark_after graph utf8 bytes from at ≡ Some (leaf, size) → ⊥
        none_at zero l {size} e = clash (found.mark_after graph utf8 bytes from 0) (leaf, size) unmarked e
        none_at (suc m) l {size} e = clash (mark_n 0 rest from m) (leaf, from + size) (v.none m (omega arith)) (there m leaf size e)
    same_mark leaf to result (inl v) = (λ l. forth l.at l.in_rest l.size l.mark l.end l.last, back)
      where
        agree : (m size : ℕ) → m ≡ v.m → mark_n 0 rest from m ≡ Some (leaf, from + size) → to ≡ from + size → result ≡ Some (leaf, to)
        agree m size e q t = v.result_is ∙ sym v.is ∙ ap (mark_n 0 rest from) (sym e) ∙ q ∙ ap (λ (n : ℕ). Some (leaf, n)) (sym t)

        forth : (at : ℕ) → at ≤ length rest + 1 → (size : ℕ) → found.mark_after graph utf8 bytes from at ≡ Some (leaf, size) → to ≡ from + size →
            ((n : ℕ) → at < n → n ≤ length rest + 1 → found.mark_after graph utf8 bytes from n ≡ None) → result ≡ Some (leaf, to)
        forth zero l size e t last = absurd (clash (found.mark_after graph utf8 bytes from 0) (leaf, size) unmarked e)
        forth (suc m) l size e t last = by (order m v.m)
          where
            by : (m < v.m) ⊎ ((v.m < m) ⊎ (m ≡ v.m)) → result ≡ Some (leaf, to)
            by (inl o) = let f = v.fits in absurd (clash (mark_n 0 rest from v.m) v.mark (none_there v.m (last (suc v.m) (omega arith) (omega arith))) v.is)
            by (inr (inl o)) = absurd (clash (mark_n 0 rest from m) (leaf, from + size) (v.last m o (omega arith)) (there m leaf size e))
            by (inr (inr o)) = agree m size o (there m leaf size e) t

        back : result ≡ Some (leaf, to) → found.IsLastMark graph utf8 bytes from leaf to
        back e =
            let p : (leaf, to) ≡ v.mark = cc (v.result_is) in
            let s = of_some (found.mark_after graph utf8 bytes from (suc v.m)) v.mark (sym (mark_is v.m) ∙ v.is) in
            record {
              at = suc v.m;
              in_rest = let f = v.fits in omega arith;
              size = s.0;
              mark = s.1 ∙ ap (λ (q : ℕ × ℕ). Some (q.0, s.0)) (sym p);
              end = ap (λ (q : ℕ × ℕ). q.1) p ∙ s.2;
              last = λ n l m. none_after n l m;
            }
          where
            none_after : (n : ℕ) → suc v.m < n → n ≤ length rest + 1 → found.mark_after graph utf8 bytes from n ≡ None
            none_after zero l m = absurd (omega arith)
            none_after (suc n) l m = none_back n (v.last n (omega arith) (omega arith))

    no_mark : (result : Option (ℕ × ℕ)) → View 0 rest from None result → ((n : ℕ) → n ≤ length rest + 1 → found.mark_after graph utf8 bytes from n ≡ None) ↔ (result ≡ None)
    no_mark result (inr v) = (λ all. v.result_is, λ e n l. none n l)
      where
        none : (n : ℕ) → n ≤ length rest + 1 → found.mark_after graph utf8 bytes from n ≡ None
        none zero l = unmarked
        none (suc n) l = none_back n (v.none n (omega arith))
    no_mark result (inl v) =
        (λ all. absurd (clash (mark_n 0 rest from v.m) v.mark (none_there v.m (let f = v.fits in all (suc v.m) (omega arith))) v.is), λ e n l. absurd (clash result v.mark e v.result_is))

    covers_alike : (to : ℕ) → found.CoversWalk graph utf8 bytes from to ↔ MayEnd g 0 utf8 bytes from to
    covers_alike to = (
      λ c. record {
        nonempty = c.nonempty;
        covers = let f = followed_fits rest 0 in c.covers (followed g 0 rest) f ((walk_followed rest 0 (followed g 0 rest) f).1 (omega arith));
        boundary = c.boundary;
      },
      λ c. record {
        nonempty = c.nonempty;
        covers = λ n l w. let m = (walk_followed rest 0 n l).0 w in let h = c.covers in omega arith;
        boundary = c.boundary;
      },
    )

    -- a graph finds the match that its walk finds
    pub finds_alike : (f : Found) → found.GraphFinds graph utf8 bytes from f ↔ GraphFindsByWalk graph utf8 bytes from f
    finds_alike ended = (λ x. x, λ x. x)
    finds_alike (matched leaf to) =
        let s = same_mark leaf to (last_mark g 0 rest from None) (last_view rest 0 from None) in
        (λ x. (x.0, s.0 x.1), λ x. (x.0, s.1 x.1))
    finds_alike (failed to) =
        let s = no_mark (last_mark g 0 rest from None) (last_view rest 0 from None) in (
          λ x. record { starts = x.starts; unmarked = s.0 x.unmarked; may_end = (covers_alike to).0 x.covers; least = λ other m. x.least other ((covers_alike other).1 m) },
          λ x. record { starts = x.starts; unmarked = s.1 x.unmarked; covers = (covers_alike to).1 x.may_end; least = λ other m. x.least other ((covers_alike other).0 m) },
        )
