-- The steps of the reduction, as the theory of reductions has them.
use Rattle.std.proofs.Common.{◌≡◌, ℕ, ◌<◌, ◌≤◌, ◌⊎◌, inl, inr, List, Option, Some, None, option_and_then, refl, sym, ◌∙◌, ap, subst, arith}
use Rattle.std.proofs.lemmas.Bool.{cases_lt}
use Rattle.logos_reduce.specs.Merge.{IsMerged}
use Rattle.logos_reduce.specs.Number.{IsNumbered}
use Rattle.logos_reduce.specs.Prune.{IsOfUse, IsPrunedTable}
use Rattle.logos_reduce.specs.Settle.{accepted, AllAccepted, IsSpare, IsNeeded, IsSettled}
use Rattle.logos_reduce.specs.Table.{mark_in, size, to, mark, type_of, edges}
use Rattle.logos_reduce.specs.declared.merge.blocks.Split.{Split}
use Rattle.logos_reduce.specs.declared.table.StateMarks.{StateMarks}
use Rattle.logos_reduce.specs.declared.table.Table.{Table}
use Rattle.logos_reduce.proofs.numbering.StateLemmas as num
use Rattle.logos_reduce.proofs.tables.EdgeLemmas.{edge_within, unmarked_past}
use Rattle.logos_graph.proofs.Maps.{IsMap}
use Rattle.logos_graph.proofs.Pruned.{IsPruned, IsKept}
use Rattle.logos_graph.proofs.Settled as settled

module _ (old new : Table) (late_only : (s : ℕ) → (mark old s).early ≡ None) (h : IsSettled old new) where
  -- all that is accepted by symbols
  accepted_there : (s k leaf : ℕ) → accepted old s k ≡ Some leaf → (t : ℕ) × (to old s k ≡ Some t) × ((mark old t).accept ≡ Some leaf)
  accepted_there s k leaf e = go (to old s k) refl e
    where
      go : (o : Option ℕ) → to old s k ≡ o → option_and_then (λ t. (mark old t).accept) o ≡ Some leaf → (t : ℕ) × (to old s k ≡ Some t) × ((mark old t).accept ≡ Some leaf)
      go None q e = absurd (cc)
      go (Some t) q e = (t, q, e)

  common : (s leaf : ℕ) → AllAccepted old s leaf → settled.AllAccept (to old) (λ s. to old s 256) (edges old).type_of s leaf
  common s leaf all = record {
    by_byte = λ b l. accepted_there s b leaf (all b (omega arith));
    by_end = accepted_there s 256 leaf (all 256 (omega arith));
  }

  common_back : (s leaf : ℕ) → settled.AllAccept (to old) (λ s. to old s 256) (edges old).type_of s leaf → AllAccepted old s leaf
  common_back s leaf all k l = go (cases_lt k 256)
    where
      there : (k t : ℕ) → to old s k ≡ Some t → (mark old t).accept ≡ Some leaf → accepted old s k ≡ Some leaf
      there k t e a = ap (option_and_then (λ t. (mark old t).accept)) e ∙ a

      go : (k < 256) ⊎ (256 ≤ k) → accepted old s k ≡ Some leaf
      go (inl m) = let c = all.by_byte k m in there k c.0 c.1 c.2
      go (inr m) =
          let c = all.by_end in
          let e : 256 ≡ k = omega arith in
          subst (λ (k : ℕ). accepted old s k ≡ Some leaf) e (there 256 c.0 c.1 c.2)

  early_of : (s leaf : ℕ) → (mark new s).early ≡ Some leaf → settled.AllAccept (to old) (λ s. to old s 256) (edges old).type_of s leaf
  early_of s leaf e = go (cases_lt s (size old))
    where
      go : (s < size old) ⊎ (size old ≤ s) → settled.AllAccept (to old) (λ s. to old s 256) (edges old).type_of s leaf
      go (inl l) = common s leaf ((h.early s l leaf).0 e)
      go (inr l) =
          let past : (mark new s).early ≡ None = ap (λ (m : StateMarks). m.early) (unmarked_past new s (let n = h.states in omega arith)) in
          absurd (cc)

  pub early_all : (s leaf : ℕ) → settled.AllAccept (to old) (λ s. to old s 256) (edges old).type_of s leaf → (mark new s).early ≡ Some leaf
  early_all s leaf all =
      let c = all.by_end in
      (h.early s (edge_within old s 256 c.0 c.1).0 leaf).1 (common_back s leaf all)

  step_symbol : (s t : ℕ) → settled.IsStep (to old) (λ s. to old s 256) s t → (k : ℕ) × (to old s k ≡ Some t)
  step_symbol s t (settled.by_byte b l e) = (b, e)
  step_symbol s t (settled.by_end e) = (256, e)

  kept_mark : (t : ℕ) → settled.IsKept (to old) (λ s. to old s 256) (edges old).type_of (edges new).type_of t
  kept_mark t = go (cases_lt t (size old))
    where
      dropped : (a : Option ℕ) → (mark old t).accept ≡ a → (mark new t).accept ≡ None → ((s : ℕ) → s < size old → IsSpare old s (mark new s).early t) →
          settled.IsKept (to old) (λ s. to old s 256) (edges old).type_of (edges new).type_of t
      dropped None q e spare = inl (e ∙ sym q)
      dropped (Some leaf) q e spare = inr (
        leaf,
        q,
        e,
        λ s step.
            let k = step_symbol s t step in
            sym (spare s (edge_within old s k.0 t k.1).0 k.0 k.1) ∙ q,
      )

      inside : ((((mark new t).accept ≡ (mark old t).accept) × ((s : ℕ) × (s < size old) × IsNeeded old s (mark new s).early t))
          ⊎ (((mark new t).accept ≡ None) × ((s : ℕ) → s < size old → IsSpare old s (mark new s).early t))) →
          settled.IsKept (to old) (λ s. to old s 256) (edges old).type_of (edges new).type_of t
      inside (inl x) = inl x.0
      inside (inr x) = dropped (mark old t).accept refl x.0 x.1

      go : (t < size old) ⊎ (size old ≤ t) → settled.IsKept (to old) (λ s. to old s 256) (edges old).type_of (edges new).type_of t
      go (inl l) = inside (h.late t l)
      go (inr l) = inl (ap (λ (m : StateMarks). m.accept) (unmarked_past new t (let n = h.states in omega arith) ∙ sym (unmarked_past old t l)))

  pub are_settled : settled.AreSettled (to old) (λ s. to old s 256) (edges old).type_of (edges new).type_of
  are_settled = record { late_only = late_only; early = early_of; kept = kept_mark }

-- a table without useless edges
module _ (old new : Table) (h : IsPrunedTable old new) where
  kept_edge : (s k : ℕ) (o : Option ℕ) → to old s k ≡ o → IsKept (IsOfUse old) o (to new s k)
  kept_edge s k None e = h.none s k e
  kept_edge s k (Some t) e = h.some s k t e

  pub is_pruned : IsPruned (edges old) (edges new)
  is_pruned = record {
    types = λ s. ap (λ (m : _). type_of (mark_in m s)) (ap (λ (v : _). v.items) h.marks);
    edges = λ s b l. kept_edge s b (to old s b) refl;
    ends = λ s. kept_edge s 256 (to old s 256) refl;
  }

-- the merged and numbered states, as a map
module _ (old new : Table) (splits : List Split) (block leader : ℕ → ℕ) (root : ℕ) (states : List ℕ) (m : IsMerged old splits block leader) (n : IsNumbered old block leader root states new) where
  pub is_map : IsMap (num.IsIn old new splits block leader root states m n) (num.number old new splits block leader root states m n) (edges old) (edges new)
  is_map = record {
    inside = λ s t b l i e. num.stays_in old new splits block leader root states m n s t b i e;
    types = num.same_type old new splits block leader root states m n;
    edges = λ s b l i. num.same_edge old new splits block leader root states m n s b i;
    ends = λ s i. num.same_edge old new splits block leader root states m n s 256 i;
    end_types = λ s t i e. num.same_type old new splits block leader root states m n t (num.stays_in old new splits block leader root states m n s t 256 i e);
  }
