-- The states of a numbered table are in the order of their first edges.
use Rattle.std.proofs.Common.{◌≡◌, ℕ, zero, suc, ◌<◌, ◌≤◌, ◌+◌, ◌⊎◌, inl, inr, slice_index, List, Option, Some, option_and_then, sym, ◌∙◌, ap, arith}
use Rattle.logos_reduce.specs.Merge.{target_block}
use Rattle.logos_reduce.specs.Number.{ComesBefore, IsFirstInto, IsNumbered}
use Rattle.logos_reduce.specs.Reduction.{IsFirstEdge, IsInOrder}
use Rattle.logos_reduce.specs.Rows.{target_of}
use Rattle.logos_reduce.specs.Table.{size, to}
use Rattle.logos_reduce.specs.declared.table.Table.{Table}
use Rattle.logos_reduce.proofs.numbering.NumberLemmas.{target_numbered}
use Rattle.logos_reduce.proofs.tables.EdgeLemmas.{edge_within}

module _ (old new : Table) (block leader : ℕ → ℕ) (root : ℕ) (states : List ℕ) (numbered : IsNumbered old block leader root states new) where
  -- an edge by indexes of blocks
  abbrev by_blocks : ℕ → ℕ → Option ℕ
  by_blocks b k = target_block old block (leader b) k

  pub enters : (r l j : ℕ) → r < size new → j < size new → by_blocks (slice_index states r) l ≡ Some (slice_index states j) → to new r l ≡ Some j
  enters r l j hr hj e =
      let n = numbered.states_of in
      let p = (numbered.order.placed j (omega arith)).1 in
      numbered.edges r l (omega arith) ∙ ap (option_and_then (λ b. target_of (slice_index numbered.numbers b))) e ∙ numbered_one (slice_index numbered.numbers (slice_index states j)) p
    where
      numbered_one : (x : ℕ) → x ≡ j + 1 → target_of x ≡ Some j
      numbered_one zero q = absurd (omega arith)
      numbered_one (suc x) q = ap Some (omega arith)

  entered : (r l j : ℕ) → to new r l ≡ Some j → by_blocks (slice_index states r) l ≡ Some (slice_index states j)
  entered r l j e =
      let n = numbered.states_of in
      let hr = (edge_within new r l j e).0 in
      let p = target_numbered numbered.numbers states numbered.order (by_blocks (slice_index states r) l) j (sym (numbered.edges r l (omega arith)) ∙ e) in
      p.1 ∙ ap Some (sym p.3)

  abbrev pub slot : ℕ → ℕ
  slot = numbered.in_turn.slot

  abbrev pub symbol : ℕ → ℕ
  symbol = numbered.in_turn.symbol

  order : (a b : ℕ) → (a < b) ⊎ ((b < a) ⊎ (a ≡ b))
  order a b = grind arith

  pub first_edge : (t : ℕ) → 0 < t → t < size new → (slot t < t) × IsFirstEdge new t (slot t) (symbol t)
  first_edge t p l =
      let n = numbered.states_of in
      let f = numbered.in_turn.first t p (omega arith) in
      let w = f.lower in (
        f.lower,
        record {
          edge = enters (slot t) (symbol t) t (omega arith) (omega arith) f.enters;
          first = λ other at e. later f other at (entered other at t e) (order other (slot t)) (order at (symbol t));
        },
      )
    where
      later : IsFirstInto by_blocks states t (slot t) (symbol t) → (other at : ℕ) → by_blocks (slice_index states other) at ≡ Some (slice_index states t) →
          (other < slot t) ⊎ ((slot t < other) ⊎ (other ≡ slot t)) → (at < symbol t) ⊎ ((symbol t < at) ⊎ (at ≡ symbol t)) → (slot t < other) ⊎ ((slot t ≡ other) × (symbol t ≤ at))
      later f other at e (inl a) b = absurd (f.none other at (inl a) e)
      later f other at e (inr (inl a)) b = inl a
      later f other at e (inr (inr a)) (inl b) = absurd (f.none other at (inr (a, b)) e)
      later f other at e (inr (inr a)) (inr (inl b)) = inr (sym a, omega arith)
      later f other at e (inr (inr a)) (inr (inr b)) = inr (sym a, omega arith)

  -- a state has one first edge
  one_first : (t s k r l : ℕ) → IsFirstEdge new t s k → IsFirstEdge new t r l → (s ≡ r) × (k ≡ l)
  one_first t s k r l x y = go (x.first r l y.edge) (y.first s k x.edge)
    where
      go : (s < r) ⊎ ((s ≡ r) × (k ≤ l)) → (r < s) ⊎ ((r ≡ s) × (l ≤ k)) → (s ≡ r) × (k ≡ l)
      go (inl a) (inl b) = absurd (omega arith)
      go (inl a) (inr b) = let z = b.0 in absurd (omega arith)
      go (inr a) (inl b) = let z = a.0 in absurd (omega arith)
      go (inr a) (inr b) = (a.0, let p = a.1 in let q = b.1 in omega arith)

  rising : (t u s k r l : ℕ) → 0 < t → t < u → IsFirstEdge new t s k → IsFirstEdge new u r l → (s < r) ⊎ ((s ≡ r) × (k < l))
  rising t u s k r l p m x y =
      let n = numbered.states_of in
      let lu : u < size new = (edge_within new r l u y.edge).1 in
      let a = one_first t s k (slot t) (symbol t) x (first_edge t p (omega arith)).1 in
      let b = one_first u r l (slot u) (symbol u) y (first_edge u (omega arith) (omega arith)).1 in
      turn a.0 a.1 b.0 b.1 (numbered.in_turn.rises t u p m (omega arith))
    where
      turn : s ≡ slot t → k ≡ symbol t → r ≡ slot u → l ≡ symbol u → ComesBefore (slot t) (symbol t) (slot u) (symbol u) → (s < r) ⊎ ((s ≡ r) × (k < l))
      turn a b c d (inl z) = inl (omega arith)
      turn a b c d (inr z) = let w = z.0 in let v = z.1 in inr (omega arith, omega arith)

  pub in_order : IsInOrder new
  in_order = record {
    entered = λ t p l. let f = first_edge t p l in (slot t, symbol t, f.0, f.1);
    rises = rising;
  }
