-- The numbers of merged states.
use Rattle.std.proofs.Common.{◌≡◌, ℕ, zero, suc, ◌<◌, ◌-◌, inl, slice_index, List, length, Option, Some, None, option_map, option_and_then, refl, sym, ◌∙◌, ap, arith}
use Rattle.logos_reduce.specs.Merge.{target_block, IsMerged}
use Rattle.logos_reduce.specs.Number.{IsNumbered}
use Rattle.logos_reduce.specs.Order.{IsMet}
use Rattle.logos_reduce.specs.Rows.{target_of}
use Rattle.logos_reduce.specs.Table.{size, to, mark, type_of, edges}
use Rattle.logos_reduce.specs.declared.merge.blocks.Split.{Split}
use Rattle.logos_reduce.specs.declared.table.Table.{Table}
use Rattle.logos_reduce.proofs.tables.EdgeLemmas.{edge_within}

module _ (old new : Table) (splits : List Split) (block leader : ℕ → ℕ) (root : ℕ) (states : List ℕ) (m : IsMerged old splits block leader) (n : IsNumbered old block leader root states new) where
  -- the number of a state
  abbrev pub number : ℕ → ℕ
  number s = slice_index n.numbers (block s) - 1

  -- the states whose blocks are numbered
  abbrev pub IsIn : ℕ → Type 0
  IsIn s = (s < size old) × IsMet n.numbers (block s)

  pub number_slot : (s : ℕ) → IsIn s → (number s < length states) × (slice_index states (number s) ≡ block s)
  number_slot s i = n.order.named (block s) (number s) (let p = i.1 in omega arith)

  pub numbered_as : (s : ℕ) → IsIn s → target_of (slice_index n.numbers (block s)) ≡ Some (number s)
  numbered_as s i = go (slice_index n.numbers (block s)) i.1
    where
      go : (x : ℕ) → 0 < x → target_of x ≡ Some (x - 1)
      go zero l = absurd (omega arith)
      go (suc x) l = ap Some (omega arith)

  -- where a state leads, by the leader of its block
  by_leader : (s k : ℕ) → IsIn s → target_block old block (leader (slice_index states (number s))) k ≡ target_block old block s k
  by_leader s k i = ap (λ (b : ℕ). target_block old block (leader b) k) (number_slot s i).1 ∙ sym (m.alike s k i.0)

  pub stays_in : (s t k : ℕ) → IsIn s → to old s k ≡ Some t → IsIn t
  stays_in s t k i e =
      let p = number_slot s i in
      ((edge_within old s k t e).1, n.in_turn.met (number s) k (block t) p.0 (inl p.0) (by_leader s k i ∙ ap (option_map block) e))

  pub same_type : (s : ℕ) → IsIn s → (edges new).type_of (number s) ≡ (edges old).type_of s
  same_type s i =
      let p = number_slot s i in
      let l = m.leaders s i.0 in
      ap type_of (n.marks (number s) p.0 ∙ ap (λ (b : ℕ). mark old (leader b)) p.1 ∙ m.sound.marks (leader (block s)) s l.0 i.0 l.1)

  pub same_edge : (s k : ℕ) → IsIn s → to new (number s) k ≡ option_map number (to old s k)
  same_edge s k i =
      let p = number_slot s i in
      n.edges (number s) k p.0 ∙ ap (option_and_then (λ b. target_of (slice_index n.numbers b))) (by_leader s k i) ∙ go (to old s k) refl
    where
      go : (o : Option ℕ) → to old s k ≡ o → option_and_then (λ b. target_of (slice_index n.numbers b)) (option_map block o) ≡ option_map number o
      go None e = refl
      go (Some t) e = numbered_as t (stays_in s t k i e)

  pub root_met : root < size old → IsIn root × (number root ≡ 0)
  root_met l =
      let p = (n.order.placed 0 n.some).1 in
      let e = ap (slice_index n.numbers) n.start in
      ((l, omega arith), omega arith)
