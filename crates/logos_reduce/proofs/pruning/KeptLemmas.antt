-- The edges that are left without those to states of no use.
use Rattle.std.proofs.Common.{◌≡◌, ℕ, ◌⊎◌, inl, inr, Option, Some, None, refl, ◌∙◌, ap, subst}
use Rattle.logos_reduce.specs.Edges.{Leads, to_mark, onward, to_end}
use Rattle.logos_reduce.specs.Prune.{IsOfUse, IsPrunedTable}
use Rattle.logos_reduce.specs.Table.{to, mark, mark_in, edges}
use Rattle.logos_reduce.specs.declared.table.Table.{Table}

module _ (old new : Table) (prune : IsPrunedTable old new) where
  -- an edge that is left
  pub old_edge : (s k u : ℕ) → to new s k ≡ Some u → (to old s k ≡ Some u) × IsOfUse old u
  old_edge s k u e = go (to old s k) refl
    where
      some : (t : ℕ) → to old s k ≡ Some t → ((to new s k ≡ Some t) × IsOfUse old t) ⊎ ((to new s k ≡ None) × (IsOfUse old t → ⊥)) → (to old s k ≡ Some u) × IsOfUse old u
      some t q (inl x) =
          let same : t ≡ u = cc (x.0) in
          (q ∙ ap Some same, subst (IsOfUse old) same x.1)
      some t q (inr x) = absurd (cc (x.0))

      go : (o : Option ℕ) → to old s k ≡ o → (to old s k ≡ Some u) × IsOfUse old u
      go None q = let n = prune.none s k q in absurd (cc)
      go (Some t) q = some t q (prune.some s k t q)

  -- an edge to a state that is of use is left
  pub kept_edge : (s k t : ℕ) → to old s k ≡ Some t → IsOfUse old t → to new s k ≡ Some t
  kept_edge s k t e u = go (prune.some s k t e)
    where
      go : ((to new s k ≡ Some t) × IsOfUse old t) ⊎ ((to new s k ≡ None) × (IsOfUse old t → ⊥)) → to new s k ≡ Some t
      go (inl x) = x.0
      go (inr x) = absurd (x.1 u)

  pub same_mark : (s : ℕ) → mark new s ≡ mark old s
  same_mark s = ap (λ (v : _). mark_in v.items s) prune.marks

  -- a state that leads to a mark still does
  pub leads_kept : (s : ℕ) → Leads (edges old) s → Leads (edges new) s
  leads_kept s (to_mark {t = t} b ok e m) = to_mark b ok (kept_edge s b t e (inl m)) (rw (same_mark t) m)
  leads_kept s (onward {t = t} b ok e l) = onward b ok (kept_edge s b t e (inr l)) (leads_kept t l)
  leads_kept s (to_end {t = t} e m) = to_end (kept_edge s 256 t e (inl m)) (rw (same_mark t) m)
