-- Each state of a reduced table but the first is of use, and each of its late marks is needed.
use Rattle.std.proofs.Common.{◌≡◌, ◌≢◌, ℕ, ◌<◌, ◌≤◌, ◌⊎◌, inl, inr, List, [], ◌∷◌, Option, Some, None, option_map, option_and_then, refl, sym, ◌∙◌, ap, subst, arith}
use Rattle.std.specs.List.{All}
use Rattle.std.proofs.lemmas.Bool.{cases_lt}
use Rattle.std.proofs.lemmas.List.Elements.{All-head, All-tail}
use Rattle.logos_reduce.specs.Edges.{StateType, IsMarked, reach, Leads, to_mark, onward, to_end}
use Rattle.logos_reduce.specs.Prune.{IsOfUse}
use Rattle.logos_reduce.specs.Raw.{IsReached, IsRaw}
use Rattle.logos_reduce.specs.Reduction.{IsReductionOf, IsSpareless}
use Rattle.logos_reduce.specs.Settle.{IsNeededOrSpare}
use Rattle.logos_reduce.specs.Table.{size, to, mark, type_of, edges}
use Rattle.logos_reduce.specs.declared.reduction.Reduction.{Reduction}
use Rattle.logos_reduce.specs.declared.table.StateMarks.{StateMarks}
use Rattle.logos_reduce.specs.declared.table.Table.{Table}
use Rattle.logos_reduce.proofs.numbering.VisitLemmas.{first_edge}
use Rattle.logos_reduce.proofs.pruning.KeptLemmas.{kept_edge}
use Rattle.logos_reduce.proofs.whole.EndLemmas as end
use Rattle.logos_reduce.proofs.tables.EdgeLemmas.{edge_symbol, unmarked_past}

module _ (raw : Table) (root : ℕ) (reduction : Reduction) (made : IsReductionOf raw root reduction) where
  abbrev mid : Table
  mid = made.marked

  abbrev pruned : Table
  pruned = made.useful

  abbrev final : Table
  final = reduction.table

  abbrev IsIn : ℕ → Type 0
  IsIn = end.IsIn raw root reduction made

  abbrev number : ℕ → ℕ
  number = end.number raw root reduction made

  -- an edge of the new table
  numbered_edge : (s k t : ℕ) → IsIn s → to pruned s k ≡ Some t → to final (number s) k ≡ Some (number t)
  numbered_edge s k t i e = end.same_edge raw root reduction made s k i ∙ ap (option_map number) e

  marked_number : (t : ℕ) → IsIn t → IsMarked (type_of (mark mid t)) → IsMarked (type_of (mark final (number t)))
  marked_number t i m = subst IsMarked (sym (end.number_type raw root reduction made t i)) m

  -- a state that leads to a mark still does by the numbers of states
  leads_number : (s : ℕ) → IsIn s → Leads (edges mid) s → Leads (edges final) (number s)
  leads_number s i (to_mark {t = t} b ok e m) =
      let q = kept_edge mid pruned made.pruned s b t e (inl m) in
      to_mark b ok (numbered_edge s b t i q) (marked_number t (end.stays_in raw root reduction made s t b i q) m)
  leads_number s i (onward {t = t} b ok e l) =
      let q = kept_edge mid pruned made.pruned s b t e (inr l) in
      onward b ok (numbered_edge s b t i q) (leads_number t (end.stays_in raw root reduction made s t b i q) l)
  leads_number s i (to_end {t = t} e m) =
      let q = kept_edge mid pruned made.pruned s 256 t e (inl m) in
      to_end (numbered_edge s 256 t i q) (marked_number t (end.stays_in raw root reduction made s t 256 i q) m)

  of_use_number : (t : ℕ) → IsIn t → IsOfUse mid t → IsOfUse final (number t)
  of_use_number t i (inl m) = inl (marked_number t i m)
  of_use_number t i (inr l) = inr (leads_number t i l)

  -- each state but the first has a mark or leads to one
  of_use : (s : ℕ) → 0 < s → s < size final → IsOfUse final s
  of_use s p l =
      let f = first_edge pruned final made.block made.leader root reduction.blocks.items made.numbered s p l in
      let r = made.numbered.in_turn.slot s in
      let k = made.numbered.in_turn.symbol s in
      let x = end.final_target raw root reduction made r k s f.1.edge in
      let u = (end.mid_edge raw root reduction made (end.leader_of raw root reduction made r) k x.0 x.1).1 in
      subst (IsOfUse final) x.3 (of_use_number x.0 x.2 u)

  -- a state that leads to a state that is of use is of use
  use_back : (s b t : ℕ) → b < 256 → to raw s b ≡ Some t → IsOfUse mid t → IsOfUse mid s
  use_back s b t l e (inl m) = inr (to_mark b l (end.raw_edge raw root reduction made s b ∙ e) m)
  use_back s b t l e (inr m) = inr (onward b l (end.raw_edge raw root reduction made s b ∙ e) m)

  use_before : (bytes : List ℕ) → All (λ b. b < 256) bytes → (s t : ℕ) → reach (edges raw) s bytes ≡ Some t → IsOfUse mid t → IsOfUse mid s
  use_before [] ok s t e u = let q : t ≡ s = cc in subst (IsOfUse mid) q u
  use_before (b ∷ bytes) ok s t e u = go (to raw s b) refl e (use_before bytes (All-tail (λ b. b < 256) b bytes ok))
    where
      go : (o : Option ℕ) → to raw s b ≡ o → option_and_then (λ r. reach (edges raw) r bytes) o ≡ Some t → ((s t : ℕ) → reach (edges raw) s bytes ≡ Some t → IsOfUse mid t → IsOfUse mid s) → IsOfUse mid s
      go None q x ih = absurd (cc)
      go (Some r) q x ih = use_back s b r (All-head (λ b. b < 256) b bytes ok) q (ih r t x u)

  -- a state that is of use, and to which bytes lead, is numbered
  numbered_by : (bytes : List ℕ) → All (λ b. b < 256) bytes → (s t : ℕ) → IsIn s → reach (edges raw) s bytes ≡ Some t → IsOfUse mid t → IsIn t
  numbered_by [] ok s t i e u = let q : s ≡ t = cc in subst IsIn q i
  numbered_by (b ∷ bytes) ok s t i e u = go (to raw s b) refl e (numbered_by bytes (All-tail (λ b. b < 256) b bytes ok))
    where
      go : (o : Option ℕ) → to raw s b ≡ o → option_and_then (λ r. reach (edges raw) r bytes) o ≡ Some t → ((s t : ℕ) → IsIn s → reach (edges raw) s bytes ≡ Some t → IsOfUse mid t → IsIn t) → IsIn t
      go None q x ih = absurd (cc)
      go (Some r) q x ih =
          let use_r = use_before bytes (All-tail (λ b. b < 256) b bytes ok) r t x u in
          let e' = kept_edge mid pruned made.pruned s b r (end.raw_edge raw root reduction made s b ∙ q) use_r in
          ih r t (end.stays_in raw root reduction made s r b i e') x u

  module _ (is_raw : IsRaw raw root) where
    root_in : IsIn root
    root_in = (end.root_is raw root reduction made is_raw.root_in).0

    -- an edge into a state at which its late mark is needed
    abbrev HasNeed : ℕ → ℕ → Type 0
    HasNeed t leaf = (s k : ℕ) × (to final s k ≡ Some t) × ((mark final s).early ≢ Some leaf)

    -- a late mark is needed on some way in
    needed : (t leaf : ℕ) → (mark final t).accept ≡ Some leaf → HasNeed t leaf
    needed t leaf h = go (cases_lt t (size final))
      where
        found : (T s k : ℕ) → IsIn T → number T ≡ t → (mark mid T).accept ≡ Some leaf → (mark raw T).accept ≡ Some leaf → s < size raw → to raw s k ≡ Some T → (mark raw T).accept ≢ (mark mid s).early → HasNeed t leaf
        found T s k i e a b l q d = by_way (is_raw.reached s l)
          where
            marked : IsMarked (type_of (mark mid T))
            marked = inr (rw a refl)

            leads : (k < 256) ⊎ (256 ≤ k) → Leads (edges mid) s
            leads (inl m) = to_mark k m (end.raw_edge raw root reduction made s k ∙ q) marked
            leads (inr m) =
                let w = edge_symbol raw s k T q in
                let z : k ≡ 256 = omega arith in
                to_end (end.raw_edge raw root reduction made s 256 ∙ ap (to raw s) (sym z) ∙ q) marked

            of_use_s : IsOfUse mid s
            of_use_s = inr (leads (cases_lt k 256))

            with_source : IsIn s → HasNeed t leaf
            with_source j =
                let kept = kept_edge mid pruned made.pruned s k T (end.raw_edge raw root reduction made s k ∙ q) (inl marked) in (
                  number s,
                  k,
                  numbered_edge s k T j kept ∙ ap Some e,
                  λ z. d (b ∙ sym z ∙ ap (λ (y : StateType). y.early) (end.number_type raw root reduction made s j)),
                )

            by_way : IsReached raw root s → HasNeed t leaf
            by_way (bytes, ok, inl way) = with_source (numbered_by bytes ok root s root_in way of_use_s)
            by_way (bytes, ok, inr x) = absurd (end.dead_end raw root reduction made is_raw x.0 s x.2 (leads (cases_lt k 256)))

        by_need : (T : ℕ) → IsIn T → number T ≡ t → (mark mid T).accept ≡ Some leaf → IsNeededOrSpare raw mid T → HasNeed t leaf
        by_need T i e a (inl x) = let s = x.1 in found T s.0 s.2.0 i e a (sym x.0 ∙ a) s.1 s.2.1 s.2.2
        by_need T i e a (inr x) = let z = x.0 in absurd (cc)

        go : (t < size final) ⊎ (size final ≤ t) → HasNeed t leaf
        go (inl l) =
            let p = end.lead_number raw root reduction made t l in
            let T = end.leader_of raw root reduction made t in
            let same : type_of (mark final t) ≡ type_of (mark mid T) = ap (λ (j : ℕ). type_of (mark final j)) (sym p.1) ∙ end.number_type raw root reduction made T p.0 in
            by_need T p.0 p.1 (ap (λ (y : StateType). y.accept) (sym same) ∙ h) (made.settled.late T (end.in_raw raw root reduction made T p.0))
        go (inr l) = let past : (mark final t).accept ≡ None = ap (λ (m : StateMarks). m.accept) (unmarked_past final t l) in absurd (cc)

    pub spareless : IsSpareless final
    spareless = record { of_use = of_use; needed = needed }
