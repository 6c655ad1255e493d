-- States that lead to a mark after the marks are settled led to one before.
use Rattle.std.proofs.Common.{◌≡◌, ℕ, ◌<◌, inl, inr, List, Option, Some, None, IsSome, option_and_then, refl, sym, ◌∙◌, ap, arith}
use Rattle.logos_reduce.specs.Edges.{Leads, to_mark, onward, to_end}
use Rattle.logos_reduce.specs.Raw.{IsRaw}
use Rattle.logos_reduce.specs.RowsView.{rows_of}
use Rattle.logos_reduce.specs.Rows.{target_in}
use Rattle.logos_reduce.specs.Settle.{AllAccepted, IsNeededOrSpare, IsSettled}
use Rattle.logos_reduce.specs.Table.{size, to, mark, edges}
use Rattle.logos_reduce.specs.declared.table.Table.{Table}
use Rattle.logos_reduce.proofs.tables.EdgeLemmas.{edge_within}

-- tables with one list of rows have the same edges
pub same_to : (old new : Table) → rows_of new.rows ≡ rows_of old.rows → (s k : ℕ) → to new s k ≡ to old s k
same_to old new e s k = ap (λ (rows : List (List ℕ)). target_in rows s k) e

-- a leaf that is accepted by all symbols is accepted by the first
accepted_first : (table : Table) (s leaf : ℕ) → AllAccepted table s leaf → Leads (edges table) s
accepted_first table s leaf all = go (to table s 0) refl (all 0 (omega arith))
  where
    go : (o : Option ℕ) → to table s 0 ≡ o → option_and_then (λ t. (mark table t).accept) o ≡ Some leaf → Leads (edges table) s
    go None q e = absurd (cc)
    go (Some t) q e = to_mark 0 (omega arith) q (inr (rw e refl))

pub none_is_none : (o : Option ℕ) → o ≡ None → IsSome o → ⊥
none_is_none None e s = cc
none_is_none (Some x) e s = cc

module _ (raw mid : Table) (root : ℕ) (is_raw : IsRaw raw root) (settled : IsSettled raw mid) where
  pub raw_edge : (s k : ℕ) → to mid s k ≡ to raw s k
  raw_edge = same_to raw mid settled.rows

  early_leads : (s leaf : ℕ) → s < size raw → (mark mid s).early ≡ Some leaf → Leads (edges raw) s
  early_leads s leaf l e = accepted_first raw s leaf ((settled.early s l leaf).0 e)

  -- a state after the end is not early
  pub late_end : (s t : ℕ) → to raw s 256 ≡ Some t → (mark mid t).early ≡ None
  late_end s t e = go (mark mid t).early refl
    where
      go : (o : Option ℕ) → (mark mid t).early ≡ o → o ≡ None
      go None q = refl
      go (Some leaf) q = absurd (is_raw.ends s t e (early_leads t leaf (edge_within raw s 256 t e).1 q))

  -- a late mark was there before
  pub kept_accept : (s leaf : ℕ) → s < size raw → (mark mid s).accept ≡ Some leaf → (mark raw s).accept ≡ Some leaf
  kept_accept s leaf l e = go (settled.late s l)
    where
      go : IsNeededOrSpare raw mid s → (mark raw s).accept ≡ Some leaf
      go (inl x) = sym x.0 ∙ e
      go (inr x) = let z = x.0 in absurd (cc)

  was_late : (s : ℕ) → s < size raw → IsSome (mark mid s).accept → IsSome (mark raw s).accept
  was_late s l m = go (mark mid s).accept refl m
    where
      go : (o : Option ℕ) → (mark mid s).accept ≡ o → IsSome o → IsSome (mark raw s).accept
      go None q m = absurd (none_is_none None refl m)
      go (Some leaf) q m = rw (kept_accept s leaf l q) refl

  some_early : (s : ℕ) → s < size raw → IsSome (mark mid s).early → Leads (edges raw) s
  some_early s l m = go (mark mid s).early refl m
    where
      go : (o : Option ℕ) → (mark mid s).early ≡ o → IsSome o → Leads (edges raw) s
      go None q m = absurd (none_is_none None refl m)
      go (Some leaf) q m = early_leads s leaf l q

  pub leads_before : (s : ℕ) → Leads (edges mid) s → Leads (edges raw) s
  leads_before s (to_mark {t = t} b ok e (inl m)) =
      let q = sym (raw_edge s b) ∙ e in
      onward b ok q (some_early t (edge_within raw s b t q).1 m)
  leads_before s (to_mark {t = t} b ok e (inr m)) =
      let q = sym (raw_edge s b) ∙ e in
      to_mark b ok q (inr (was_late t (edge_within raw s b t q).1 m))
  leads_before s (onward {t = t} b ok e l) = onward b ok (sym (raw_edge s b) ∙ e) (leads_before t l)
  leads_before s (to_end {t = t} e (inl m)) = absurd (none_is_none (mark mid t).early (late_end s t (sym (raw_edge s 256) ∙ e)) m)
  leads_before s (to_end {t = t} e (inr m)) =
      let q = sym (raw_edge s 256) ∙ e in
      to_end q (inr (was_late t (edge_within raw s 256 t q).1 m))

  -- a state after the end leads to no mark
  pub dead_end : (s t : ℕ) → to raw s 256 ≡ Some t → Leads (edges mid) t → ⊥
  dead_end s t e l = is_raw.ends s t e (leads_before t l)
