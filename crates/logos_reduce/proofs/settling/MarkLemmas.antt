-- The late marks that are needed.
use Rattle.std.proofs.Common.{◌≡◌, ℕ, ◌+◌, ◌<◌, ◌≤◌, ◌⊎◌, inl, inr, Bool, true, false, List, Option, None, slice_index_or, if◌then◌else◌, refl, sym, ◌∙◌, ap, subst, arith}
use Rattle.std.proofs.lemmas.Bool.{cases_lt}
use Rattle.logos_reduce.specs.Table.{size, mark}
use Rattle.logos_reduce.specs.inside.Settle.{IsSet, AreNeeded, AreCommon, IsMarkedBy}
use Rattle.logos_reduce.specs.Settle.{IsNeeded, IsSpare, IsCommon, IsNeededOrSpare, IsSettled}
use Rattle.logos_reduce.specs.RowsView.{rows_of}
use Rattle.logos_reduce.specs.declared.table.Table.{Table}

-- at no edges none is needed
pub needed_none : (table : Table) (early : List (Option ℕ)) (flags : List Bool) → ((t : ℕ) → IsSet flags t → ⊥) → AreNeeded table early 0 flags
needed_none table early flags clear = record {
  only = λ t h. absurd (clear t h);
  spare = λ s t l. absurd (omega arith);
}

-- one state more
pub needed_more : (table : Table) (early : List (Option ℕ)) (s : ℕ) (flags flags' : List Bool) → AreNeeded table early s flags →
    ((t : ℕ) → IsSet flags t → IsSet flags' t) → ((t : ℕ) → IsSet flags' t → IsSet flags t ⊎ IsNeeded table s (slice_index_or early s None) t) →
    ((t : ℕ) → IsSet flags' t ⊎ IsSpare table s (slice_index_or early s None) t) → AreNeeded table early (s + 1) flags'
needed_more table early s flags flags' h kept only spare = record {
  only = λ t f. here t (only t f);
  spare = λ r t l. there r t (cases_lt r s) l;
}
  where
    here : (t : ℕ) → IsSet flags t ⊎ IsNeeded table s (slice_index_or early s None) t → (r : ℕ) × (r < s + 1) × IsNeeded table r (slice_index_or early r None) t
    here t (inl f) = let o = h.only t f in (o.0, let l = o.1 in omega arith, o.2)
    here t (inr n) = (s, omega arith, n)

    older : (r t : ℕ) → IsSet flags t ⊎ IsSpare table r (slice_index_or early r None) t → IsSet flags' t ⊎ IsSpare table r (slice_index_or early r None) t
    older r t (inl f) = inl (kept t f)
    older r t (inr n) = inr n

    there : (r t : ℕ) → (r < s) ⊎ (s ≤ r) → r < s + 1 → IsSet flags' t ⊎ IsSpare table r (slice_index_or early r None) t
    there r t (inl l) m = older r t (h.spare r t l)
    there r t (inr l) m = let e : s ≡ r = omega arith in subst (λ r. IsSet flags' t ⊎ IsSpare table r (slice_index_or early r None) t) e (spare t)

-- the marks of a table and its rows make it settled
pub settled_by : (old new : Table) (early : List (Option ℕ)) (needed : List Bool) → rows_of new.rows ≡ rows_of old.rows → size new ≡ size old →
    AreCommon old (size old) early → AreNeeded old early (size old) needed → ((s : ℕ) → s < size old → IsMarkedBy old early needed s (mark new s)) → IsSettled old new
settled_by old new early needed rows same common need marks = record {
  rows = rows;
  states = same;
  early = λ s l. subst (IsCommon old s) (sym (marks s l).early_mark) (common s l);
  late = λ t l. go t l (slice_index_or needed t false) refl;
}
  where
    at : (s : ℕ) → s < size old → slice_index_or early s None ≡ (mark new s).early
    at s l = sym (marks s l).early_mark

    go : (t : ℕ) → t < size old → (b : Bool) → slice_index_or needed t false ≡ b → IsNeededOrSpare old new t
    go t l true e =
        let n = need.only t e in
        inl ((marks t l).late_mark ∙ ap (λ b. if b then (mark old t).accept else None) e, (n.0, n.1, subst (λ x. IsNeeded old n.0 x t) (at n.0 n.1) n.2))
    go t l false e =
        inr ((marks t l).late_mark ∙ ap (λ b. if b then (mark old t).accept else None) e, λ s m. subst (λ x. IsSpare old s x t) (at s m) (spare s m (need.spare s t m)))
      where
        spare : (s : ℕ) → s < size old → IsSet needed t ⊎ IsSpare old s (slice_index_or early s None) t → IsSpare old s (slice_index_or early s None) t
        spare s m (inl f) = absurd (cc)
        spare s m (inr h) = h
