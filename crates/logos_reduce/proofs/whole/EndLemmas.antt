-- The states of a reduced table, and those after the end.
use Rattle.std.proofs.Common.{◌≡◌, ◌≢◌, ℕ, ◌<◌, ◌≤◌, ◌⊎◌, inl, inr, slice_index, List, length, Option, Some, None, option_map, vec_len, refl, sym, ◌∙◌, ap, arith}
use Rattle.std.proofs.lemmas.Bool.{cases_lt}
use Rattle.logos_reduce.specs.Edges.{Leads, to_mark, onward, to_end}
use Rattle.logos_reduce.specs.Merge.{IsHistory}
use Rattle.logos_reduce.specs.Prune.{IsOfUse}
use Rattle.logos_reduce.specs.Raw.{IsRaw}
use Rattle.logos_reduce.specs.Reduction.{IsReductionOf, IsLeast}
use Rattle.logos_reduce.specs.Table.{size, to, mark, type_of, edges}
use Rattle.logos_reduce.specs.History.{YieldsEvidence}
use Rattle.logos_reduce.specs.declared.reduction.Reduction.{Reduction}
use Rattle.logos_reduce.specs.declared.table.Table.{Table}
use Rattle.logos_reduce.proofs.numbering.StateLemmas as num
use Rattle.logos_reduce.proofs.pruning.KeptLemmas.{old_edge, same_mark}
use Rattle.logos_reduce.proofs.settling.LeadLemmas as lead
use Rattle.logos_reduce.proofs.tables.EdgeLemmas.{edge_within, edge_symbol}
use Rattle.logos_reduce.proofs.words.WordLemmas as word

module _ (raw : Table) (root : ℕ) (reduction : Reduction) (made : IsReductionOf raw root reduction) where
  abbrev pub mid : Table
  mid = made.marked

  abbrev pub pruned : Table
  pruned = made.useful

  abbrev pub final : Table
  final = reduction.table

  abbrev pub states : List ℕ
  states = reduction.blocks.items

  abbrev pub IsIn : ℕ → Type 0
  IsIn = num.IsIn pruned final reduction.splits.items made.block made.leader root states made.merged made.numbered

  -- the number of a state
  abbrev pub number : ℕ → ℕ
  number = num.number pruned final reduction.splits.items made.block made.leader root states made.merged made.numbered

  -- the state of the old table for one of the new table
  abbrev pub leader_of : ℕ → ℕ
  leader_of i = made.leader (slice_index states i)

  -- all tables before the last have the same count of states
  pub pruned_size : size pruned ≡ size raw
  pruned_size = ap (λ (v : _). vec_len v) made.pruned.marks ∙ made.settled.states

  pub raw_edge : (s k : ℕ) → to mid s k ≡ to raw s k
  raw_edge = lead.same_to raw mid made.settled.rows

  pub mid_edge : (s k u : ℕ) → to pruned s k ≡ Some u → (to mid s k ≡ Some u) × IsOfUse mid u
  mid_edge = old_edge mid pruned made.pruned

  pub stays_in : (s t k : ℕ) → IsIn s → to pruned s k ≡ Some t → IsIn t
  stays_in = num.stays_in pruned final reduction.splits.items made.block made.leader root states made.merged made.numbered

  pub same_edge : (s k : ℕ) → IsIn s → to final (number s) k ≡ option_map number (to pruned s k)
  same_edge = num.same_edge pruned final reduction.splits.items made.block made.leader root states made.merged made.numbered

  pub lead_number : (i : ℕ) → i < size final → IsIn (leader_of i) × (number (leader_of i) ≡ i)
  lead_number = word.lead_number pruned final reduction.splits.items made.block made.leader root states made.merged made.numbered

  pub root_is : root < size raw → IsIn root × (number root ≡ 0)
  root_is l = num.root_met pruned final reduction.splits.items made.block made.leader root states made.merged made.numbered (let n = pruned_size in omega arith)

  pub in_raw : (s : ℕ) → IsIn s → s < size raw
  in_raw s i = let n = pruned_size in let m = i.0 in omega arith

  -- the number of a state is that of a state of the new table
  pub number_in : (s : ℕ) → IsIn s → number s < size final
  number_in s i = let p = (made.numbered.order.named (made.block s) (number s) (let m = i.1 in omega arith)).0 in let n = made.numbered.states_of in omega arith

  -- the type of the number of a state
  pub number_type : (s : ℕ) → IsIn s → type_of (mark final (number s)) ≡ type_of (mark mid s)
  number_type s i =
      num.same_type pruned final reduction.splits.items made.block made.leader root states made.merged made.numbered s i ∙ ap type_of (same_mark mid pruned made.pruned s)

  -- where a state of the new table leads, by its leader
  pub final_target : (i k t : ℕ) → to final i k ≡ Some t → (u : ℕ) × (to pruned (leader_of i) k ≡ Some u) × IsIn u × (number u ≡ t)
  final_target i k t e =
      let l = (edge_within final i k t e).0 in
      let p = lead_number i l in
      go (to pruned (leader_of i) k) refl (sym (word.new_edge pruned final reduction.splits.items made.block made.leader root states made.merged made.numbered i k l) ∙ e) p.0
    where
      go : (o : Option ℕ) → to pruned (leader_of i) k ≡ o → option_map number o ≡ Some t → IsIn (leader_of i) → (u : ℕ) × (to pruned (leader_of i) k ≡ Some u) × IsIn u × (number u ≡ t)
      go None q z i_in = absurd (cc)
      go (Some u) q z i_in = (u, q, stays_in (leader_of i) u k i_in q, let same : number u ≡ t = cc in same)

  pub history : IsHistory final reduction.splits.items (slice_index states)
  history = word.history_numbered pruned final reduction.splits.items made.block made.leader root states made.merged made.numbered

  pub some_splits : root < size raw → 0 < length reduction.splits.items
  some_splits l =
      let n = pruned_size in
      let b = made.merged.within root (omega arith) in
      omega arith

  pub different : (s t : ℕ) → s < size final → t < size final → s ≢ t → slice_index states s ≢ slice_index states t
  different s t ls lt d e =
      let n = made.numbered.states_of in
      let p = (made.numbered.order.placed s (omega arith)).1 in
      let q = (made.numbered.order.placed t (omega arith)).1 in
      let r = ap (slice_index made.numbered.numbers) e in
      d (omega arith)

  -- any two states are distinguished
  pub least : root < size raw → IsLeast final
  least l s t ls lt d = word.distinguished final reduction.splits.items (slice_index states) history s t ls lt (different s t ls lt d) (some_splits l)

  module _ (is_raw : IsRaw raw root) where
    pub late_end : (s t : ℕ) → to raw s 256 ≡ Some t → (mark mid t).early ≡ None
    late_end = lead.late_end raw mid root is_raw made.settled

    -- a state after the end leads to no mark
    pub dead_end : (s t : ℕ) → to raw s 256 ≡ Some t → Leads (edges mid) t → ⊥
    dead_end = lead.dead_end raw mid root is_raw made.settled

    -- a state after the end has no edges
    pruned_end : (s t k : ℕ) → to pruned s 256 ≡ Some t → to pruned t k ≡ None
    pruned_end s t k e = go (to pruned t k) refl
      where
        afterward : to raw s 256 ≡ Some t
        afterward = sym (raw_edge s 256) ∙ (mid_edge s 256 t e).0

        dead : (u : ℕ) → to mid t k ≡ Some u → IsOfUse mid u → (k < 256) ⊎ (256 ≤ k) → ⊥
        dead u q (inl m) (inl l) = dead_end s t afterward (to_mark k l q m)
        dead u q (inr m) (inl l) = dead_end s t afterward (onward k l q m)
        dead u q x (inr l) =
            let m = edge_symbol mid t k u q in
            let z : k ≡ 256 = omega arith in
            at_end u (ap (to mid t) (sym z) ∙ q) x
          where
            at_end : (u : ℕ) → to mid t 256 ≡ Some u → IsOfUse mid u → ⊥
            at_end u q (inl m) = dead_end s t afterward (to_end q m)
            at_end u q (inr m) = dead_end t u (sym (raw_edge t 256) ∙ q) m

        go : (o : Option ℕ) → to pruned t k ≡ o → o ≡ None
        go None q = refl
        go (Some u) q = let x = mid_edge t k u q in absurd (dead u x.0 x.1 (cases_lt k 256))

    pub final_end : (i t k : ℕ) → to final i 256 ≡ Some t → to final t k ≡ None
    final_end i t k e =
        let p = final_target i 256 t e in
        ap (λ (j : ℕ). to final j k) (sym p.3) ∙ same_edge p.0 k p.2 ∙ ap (option_map number) (pruned_end (leader_of i) p.0 k p.1)

    pub evidence : YieldsEvidence reduction
    evidence = record {
      history = history;
      some = some_splits is_raw.root_in;
      states = let n = made.numbered.states_of in omega arith;
      different = different;
      ends = final_end;
    }
