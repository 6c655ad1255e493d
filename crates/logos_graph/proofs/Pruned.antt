-- Removing the states that have no mark and do not lead to one preserves the last mark. An error
-- then covers exactly the bytes that can be followed.
use Rattle.std.proofs.Common.{◌≡◌, ◌↔◌, ℕ, ◌+◌, ◌<◌, ◌≤◌, ◌⊎◌, inl, inr, List, [], ◌∷◌, Option, Some, None, refl, sym, ◌∙◌, ap, subst, arith}
use Rattle.std.specs.Option.{option_map_or}
use Rattle.logos_hir.specs.Text.{IsBytes}
use Rattle.logos_reduce.specs.Edges.{IsMarked, Edges, Leads, to_mark, onward, to_end}
use Rattle.logos_graph.specs.inside.Walk.{marked, last_mark, followed, Covers}
use Rattle.logos_graph.proofs.Steps.{first_byte, other_bytes, none_before, skipped, no_mark, unmarked}

-- a step is kept if it leads to a useful state, and otherwise left out
abbrev pub IsKept : {S : Type 0} → (S → Type 0) → Option S → Option S → Type 0
IsKept IsUseful None o = o ≡ None
IsKept IsUseful (Some t) o = ((o ≡ Some t) × IsUseful t) ⊎ ((o ≡ None) × (IsUseful t → ⊥))

module _ {S : Type 0} (g h : Edges S) where
  abbrev pub IsUseful : S → Type 0
  IsUseful t = IsMarked (g.type_of t) ⊎ Leads g t

  pub record IsPruned : Type 0 where
    pub types : (s : S) → h.type_of s ≡ g.type_of s
    pub edges : (s : S) (b : ℕ) → b < 256 → IsKept IsUseful (g.next s b) (h.next s b)
    pub ends : (s : S) → IsKept IsUseful (g.at_end s) (h.at_end s)

module _ {S : Type 0} (g h : Edges S) (p : IsPruned g h) where
  -- after a state that leads to no mark none is found
  nothing_on : (rest : List ℕ) → IsBytes rest → (s : S) (at : ℕ) (last : Option (ℕ × ℕ)) → (Leads g s → ⊥) → last_mark g s rest at last ≡ last
  nothing_on [] ok s at last dead = go (g.at_end s) refl
    where
      go : (o : Option S) → g.at_end s ≡ o → option_map_or (λ t. marked (g.type_of t) at last) o last ≡ last
      go None e = refl
      go (Some t) e = skipped (g.type_of t) at last (λ m. dead (to_end e m))
  nothing_on (b ∷ rest) ok s at last dead = go (g.next s b) refl (nothing_on rest (other_bytes b rest ok))
    where
      go : (o : Option S) → g.next s b ≡ o →
          ((s : S) (at : ℕ) (last : Option (ℕ × ℕ)) → (Leads g s → ⊥) → last_mark g s rest at last ≡ last) →
          option_map_or (λ t. last_mark g t rest (at + 1) (marked (g.type_of t) at last)) o last ≡ last
      go None e ih = refl
      go (Some t) e ih =
          let k = skipped (g.type_of t) at last (λ m. dead (to_mark b (first_byte b rest ok) e m)) in
          rw k (ih t (at + 1) last (λ l. dead (onward b (first_byte b rest ok) e l)))

  pub pruned_marks : (rest : List ℕ) → IsBytes rest → (s : S) (at : ℕ) (last : Option (ℕ × ℕ)) → last_mark h s rest at last ≡ last_mark g s rest at last
  pruned_marks [] ok s at last = go (g.at_end s) (h.at_end s) (p.ends s)
    where
      go : (o o' : Option S) → IsKept (IsUseful g h) o o' →
          option_map_or (λ t. marked (h.type_of t) at last) o' last ≡ option_map_or (λ t. marked (g.type_of t) at last) o last
      go None o' k = rw k refl
      go (Some t) o' (inl k) = rw k.0 (ap (λ x. marked x at last) (p.types t))
      go (Some t) o' (inr k) = rw k.0 (sym (skipped (g.type_of t) at last (λ m. k.1 (inl m))))
  pruned_marks (b ∷ rest) ok s at last = go (g.next s b) (h.next s b) (p.edges s b (first_byte b rest ok)) (pruned_marks rest (other_bytes b rest ok))
    where
      go : (o o' : Option S) → IsKept (IsUseful g h) o o' →
          ((s : S) (at : ℕ) (last : Option (ℕ × ℕ)) → last_mark h s rest at last ≡ last_mark g s rest at last) →
          option_map_or (λ t. last_mark h t rest (at + 1) (marked (h.type_of t) at last)) o' last
          ≡ option_map_or (λ t. last_mark g t rest (at + 1) (marked (g.type_of t) at last)) o last
      go None o' k ih = rw k refl
      go (Some t) o' (inl k) ih = rw (k.0, p.types t) (ih t (at + 1) (marked (g.type_of t) at last))
      go (Some t) o' (inr k) ih =
          let m = skipped (g.type_of t) at last (λ m. k.1 (inl m)) in
          rw (k.0, m) (sym (nothing_on rest (other_bytes b rest ok) t (at + 1) last (λ l. k.1 (inr l))))

  -- where no mark is found, the beginnings that lead on are those that can be followed
  abbrev Alike : List ℕ → Type 0
  Alike rest = (s : S) (at to : ℕ) → at ≤ to → last_mark g s rest at None ≡ None → Covers g s rest at to ↔ (at + followed h s rest ≤ to)

  pub pruned_covers : (rest : List ℕ) → IsBytes rest → Alike rest
  pruned_covers [] ok s at to l none = (λ c. omega arith, λ c. tt)
  pruned_covers (b ∷ rest) ok s at to l none = go (g.next s b) refl (h.next s b) (p.edges s b (first_byte b rest ok)) (pruned_covers rest (other_bytes b rest ok))
    where
      go : (o : Option S) → g.next s b ≡ o → (o' : Option S) → IsKept (IsUseful g h) o o' → Alike rest →
          Covers g s (b ∷ rest) at to ↔ (at + option_map_or (λ t. followed h t rest + 1) o' 0 ≤ to)
      go None e o' k ih = rw k (λ c. omega arith, λ c t e' l. absurd (cc))
      go (Some t) e o' (inl k) ih = rw k.0 (there, back)
        where
          none_on : last_mark g t rest (at + 1) (marked (g.type_of t) at None) ≡ None
          none_on = rw e at none

          no_mark_there : marked (g.type_of t) at None ≡ None
          no_mark_there = none_before g rest t (at + 1) _ none_on

          none_after : last_mark g t rest (at + 1) None ≡ None
          none_after = rw no_mark_there at none_on

          leads_on : IsUseful g h t → Leads g t
          leads_on (inl m) = let n = no_mark (g.type_of t) at no_mark_there in absurd (unmarked (g.type_of t) n.0 n.1 m)
          leads_on (inr l) = l

          there : Covers g s (b ∷ rest) at to → at + (followed h t rest + 1) ≤ to
          there c = let d = c t e (leads_on k.1) in let i = (ih t (at + 1) to d.0 none_after).0 d.1 in omega arith

          back : at + (followed h t rest + 1) ≤ to → Covers g s (b ∷ rest) at to
          back c u e' l' = let same : t ≡ u = cc in
              let i : Covers g t rest (at + 1) to = (ih t (at + 1) to (omega arith) none_after).1 (omega arith) in
              (omega arith, subst (λ (u : S). Covers g u rest (at + 1) to) same i)
      go (Some t) e o' (inr k) ih = rw k.0 (λ c. omega arith, λ c u e' l'. let same : u ≡ t = cc in absurd (k.1 (inr (rw same at l'))))

  kept_step : (t : S) (o o' : Option S) → IsKept (IsUseful g h) o o' → o ≡ Some t → IsUseful g h t → o' ≡ Some t
  kept_step t None o' k e u = absurd (cc)
  kept_step t (Some x) o' (inl k) e u = k.0 ∙ e
  kept_step t (Some x) o' (inr k) e u = let same : t ≡ x = cc (e) in absurd (k.1 (subst (IsUseful g h) same u))

  -- a state that leads to a mark still does
  pub leads_kept : (s : S) → Leads g s → Leads h s
  leads_kept s (to_mark {t = t} b ok e m) = to_mark b ok (kept_step t (g.next s b) (h.next s b) (p.edges s b ok) e (inl m)) (rw (p.types t) m)
  leads_kept s (onward {t = t} b ok e l) = onward b ok (kept_step t (g.next s b) (h.next s b) (p.edges s b ok) e (inr l)) (leads_kept t l)
  leads_kept s (to_end {t = t} e m) = to_end (kept_step t (g.at_end s) (h.at_end s) (p.ends s) e (inl m)) (rw (p.types t) m)
