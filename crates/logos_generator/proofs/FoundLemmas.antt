-- The result of a graph, by the one walk of `ScanLemmas`.
use Rattle.std.proofs.Common.{◌≡◌, ℕ, zero, suc, ◌+◌, ◌-◌, ◌<◌, ◌≤◌, ◌↔◌, ◌⊎◌, ⊎_elim, max, Bool, false, List, length, take, drop, Option, Some, None, IsTrue, IsCharBoundary, option_map, option_and_then, slice_get, nat_lt, refl, sym, ap, ◌∙◌, subst, arith, rules}
use Rattle.logos_automaton.specs.Munch.{Found, ended, matched, failed}
use Rattle.logos_code.specs.Code.{CodeValue}
use Rattle.logos_code.specs.Runs.{marked, Acts}
use Rattle.logos_reduce.specs.Edges.{StateType}
use Rattle.logos_graph.specs.Graph.{GraphState, type_after}
use Rattle.logos_graph.specs.Found.{mark_of, mark_after, GraphFinds, IsLastMark, CoversWalk}
use Rattle.logos_generator.specs.Makes.{mark_made, mark_by}
use Rattle.logos_generator.proofs.ScanLemmas.{mark_at, last_of, reach, mark_n, last_view, HasLast, HasNone, mark_n-zero, walk_reach, reach-fits}

module _ (code : CodeValue) (graph : List GraphState) (utf8 : Bool) (bytes : List ℕ) (from : ℕ) (mode : code.utf8 ≡ utf8) (starts : from < length bytes) (unmarked : mark_at graph 0 ≡ None) where
  abbrev rest : List ℕ
  rest = drop from bytes

  abbrev placed : Option (ℕ × ℕ) → Option (ℕ × ℕ)
  placed = option_map (λ p. (p.0, from + p.1))

  -- a mark by its offset, and by the length of its match
  placed_mark : (early accept : Option ℕ) (n : ℕ) →
      marked (mark_by early accept) (from + suc n) None ≡ placed (mark_of (record { accept = accept; early = early }) (suc n))
  placed_mark (Some leaf) accept n = refl
  placed_mark None (Some leaf) n = let e : from + suc n - 1 ≡ from + (suc n - 1) = omega arith in rw e refl
  placed_mark None None n = refl

  placed_marks : (o : Option StateType) (n : ℕ) →
      option_and_then (λ type. marked (mark_made type) (from + suc n) None) o ≡ placed (option_and_then (λ type. mark_of type (suc n)) o)
  placed_marks None n = refl
  placed_marks (Some type) n = placed_mark type.early type.accept n

  mark_n-is : (n : ℕ) → mark_n graph 0 rest from (suc n) ≡ placed (mark_after graph utf8 bytes from (suc n))
  mark_n-is n = placed_marks (type_after graph 0 (take (suc n) rest) (nat_lt (length rest) (suc n))) n

  unmarked_by : (early accept : Option ℕ) → mark_by early accept ≡ None → mark_of (record { accept = accept; early = early }) 0 ≡ None
  unmarked_by (Some leaf) accept e = absurd (cc)
  unmarked_by None (Some leaf) e = absurd (cc)
  unmarked_by None None e = refl

  unmarked_at : (o : Option GraphState) → option_and_then (λ state. mark_made state.state_type) o ≡ None →
      option_and_then (λ type. mark_of type 0) (option_map (λ state. state.state_type) o) ≡ None
  unmarked_at None e = refl
  unmarked_at (Some state) e = unmarked_by state.state_type.early state.state_type.accept e

  nat_lt-zero : (a : ℕ) → nat_lt a 0 ≡ false
  nat_lt-zero a = search rules

  mark_is : (n : ℕ) → mark_n graph 0 rest from n ≡ placed (mark_after graph utf8 bytes from n)
  mark_is zero =
      let e : mark_after graph utf8 bytes from 0 ≡ None = rw (nat_lt-zero (length rest)) (unmarked_at (slice_get graph 0) unmarked) in
      let m = mark_n-zero graph 0 rest from in
      rw (e, m, unmarked) refl
  mark_is (suc n) = mark_n-is n

  of_none : (o : Option (ℕ × ℕ)) → placed o ≡ None → o ≡ None
  of_none None e = refl
  of_none (Some p) e = absurd (cc)

  of_some : (o : Option (ℕ × ℕ)) (p : ℕ × ℕ) → placed o ≡ Some p → (size : ℕ) × (o ≡ Some (p.0, size)) × (p.1 ≡ from + size)
  of_some None p e = absurd (cc)
  of_some (Some q) p e = let f : (q.0, from + q.1) ≡ p = cc in
      (q.1, ap (λ (r : ℕ × ℕ). Some (r.0, q.1)) f, sym (ap (λ (r : ℕ × ℕ). r.1) f))

  -- a mark of the graph is one by its offset
  there : (n leaf size : ℕ) → mark_after graph utf8 bytes from n ≡ Some (leaf, size) → mark_n graph 0 rest from n ≡ Some (leaf, from + size)
  there n leaf size e = mark_is n ∙ ap placed e

  no_there : (n : ℕ) → mark_after graph utf8 bytes from n ≡ None → mark_n graph 0 rest from n ≡ None
  no_there n e = mark_is n ∙ ap placed e

  no_back : (n : ℕ) → mark_n graph 0 rest from n ≡ None → mark_after graph utf8 bytes from n ≡ None
  no_back n e = of_none _ (sym (mark_is n) ∙ e)

  clash : (n : ℕ) (p : ℕ × ℕ) → mark_n graph 0 rest from n ≡ None → mark_n graph 0 rest from n ≡ Some p → ⊥
  clash n p e f = cc

  order : (a b : ℕ) → (a < b) ⊎ ((b < a) ⊎ (a ≡ b))
  order a b = grind arith

  same_last : (leaf to : ℕ) (p : ℕ × ℕ) (n at size : ℕ) → at ≡ n → mark_n graph 0 rest from n ≡ Some p → mark_n graph 0 rest from at ≡ Some (leaf, from + size) → to ≡ from + size → matched leaf to ≡ matched p.0 p.1
  same_last leaf to p n at size same is found end =
      let e : mark_n graph 0 rest from n ≡ Some (leaf, from + size) = subst (λ k. mark_n graph 0 rest from k ≡ Some (leaf, from + size)) same found in
      let f : (leaf, from + size) ≡ p = cc in
      ap (λ k. matched leaf k) end ∙ ap (λ (q : ℕ × ℕ). matched q.0 q.1) f

  abbrev scan : Option (ℕ × ℕ)
  scan = last_of graph 0 rest from None

  found_last : (found : Found) → HasLast graph 0 rest from scan → GraphFinds graph utf8 bytes from found ↔ Acts code bytes from scan (from + reach graph 0 rest) found
  found_last ended v = rw v.result_is (λ g. absurd (omega (arith, g, starts)), λ e. absurd (cc))
  found_last (matched leaf to) v = rw v.result_is (
    λ g. same g.1,
    λ e. (starts, back e),
  )
    where
      same : IsLastMark graph utf8 bytes from leaf to → matched leaf to ≡ matched v.mark.0 v.mark.1
      same l = ⊎_elim
          (λ h. absurd (clash v.n v.mark (no_there v.n (l.last v.n h v.fits)) v.is))
          (λ o. ⊎_elim
          (λ h. absurd (clash l.at _ (v.last l.at h l.in_rest) (there l.at leaf l.size l.mark)))
          (λ e. same_last leaf to v.mark v.n l.at l.size e v.is (there l.at leaf l.size l.mark) l.end)
          o)
          (order l.at v.n)

      back : matched leaf to ≡ matched v.mark.0 v.mark.1 → IsLastMark graph utf8 bytes from leaf to
      back e =
          let k : leaf ≡ v.mark.0 = cc in
          let t : to ≡ v.mark.1 = cc in
          let s = of_some _ v.mark (sym (mark_is v.n) ∙ v.is) in
          record {
            at = v.n;
            in_rest = v.fits;
            size = s.0;
            mark = s.1 ∙ ap (λ (i : ℕ). Some (i, s.0)) (sym k);
            end = t ∙ s.2;
            last = λ n h j. no_back n (v.last n h j);
          }
  found_last (failed to) v = rw v.result_is (
    λ u. absurd (clash v.n v.mark (no_there v.n (u.unmarked v.n v.fits)) v.is),
    λ e. absurd (cc),
  )

  covers_iff : (to : ℕ) → CoversWalk graph utf8 bytes from to ↔ ((max (from + reach graph 0 rest) (from + 1) ≤ to) × (IsTrue code.utf8 → IsCharBoundary bytes to))
  covers_iff to = (
    λ c.
        let f = reach-fits graph 0 rest in
        let a = c.covers (reach graph 0 rest) f ((walk_reach graph 0 rest (reach graph 0 rest) f).1 (omega arith)) in
        let b = c.nonempty in
        (omega arith, λ t. c.boundary (subst IsTrue mode t)),
    λ c. record {
      nonempty = omega (arith, c.0);
      covers = λ n h w. let k = (walk_reach graph 0 rest n h).0 w in omega (arith, c.0, k);
      boundary = λ t. c.1 (subst IsTrue (sym mode) t);
    },
  )

  found_none : (found : Found) → HasNone graph 0 rest from None scan → GraphFinds graph utf8 bytes from found ↔ Acts code bytes from scan (from + reach graph 0 rest) found
  found_none ended v = rw v.result_is (λ g. omega (arith, g, starts), λ e. absurd e)
  found_none (matched leaf to) v = rw v.result_is (
    λ g. clash g.1.at _ (v.none g.1.at g.1.in_rest) (there g.1.at leaf g.1.size g.1.mark),
    λ e. absurd e,
  )
  found_none (failed to) v = rw v.result_is (
    λ u.
        let c = (covers_iff to).0 u.covers in
        record { past = c.0; boundary = c.1; least = λ other p b. u.least other ((covers_iff other).1 (p, b)) },
    λ e. record {
      starts = starts;
      unmarked = λ n h. no_back n (v.none n h);
      covers = (covers_iff to).1 (e.past, e.boundary);
      least = λ other c. let d = (covers_iff other).0 c in e.least other d.0 d.1;
    },
  )

  pub found_iff : (found : Found) → GraphFinds graph utf8 bytes from found ↔ Acts code bytes from (last_of graph 0 (drop from bytes) from None) (from + reach graph 0 (drop from bytes)) found
  found_iff found = ⊎_elim (found_last found) (found_none found) (last_view graph 0 rest from None)
