-- A word of symbols that distinguishes two states of a table yields bytes, with or without the end
-- after them, that distinguish the states of the graph.
use Rattle.std.proofs.Common.{◌≡◌, ◌≢◌, ℕ, ◌<◌, ◌≤◌, ◌⊎◌, inl, inr, Bool, true, false, List, [], ◌∷◌, length, Option, Some, None, option_map, refl, sym, ◌∙◌, ap, arith}
use Rattle.std.proofs.lemmas.Bool.{cases_lt}
use Rattle.std.proofs.lemmas.List.Elements.{All-cons, All-nil}
use Rattle.logos_hir.specs.Text.{IsBytes}
use Rattle.logos_graph.specs.Graph.{GraphState, type_after, Distinguishes}
use Rattle.logos_reduce.specs.SymbolWords.{state_after, WordDistinguishes}
use Rattle.logos_reduce.specs.Table.{size, to, mark, type_of}
use Rattle.logos_graph.specs.ReduceShown.{Shows}
use Rattle.logos_reduce.specs.declared.table.StateMarks.{StateMarks}
use Rattle.logos_reduce.specs.declared.table.Table.{Table}
use Rattle.logos_reduce.proofs.tables.EdgeLemmas.{edge_within, edge_symbol}

pub same_mark : (a b : StateMarks) → type_of a ≡ type_of b → a ≡ b
same_mark a b e = λ i. record { accept = (e i).accept; early = (e i).early }

module _ (table : Table) (graph : List GraphState) (shows : Shows table graph) where
  pub type_here : (s : ℕ) → s < size table → type_after graph s [] false ≡ Some (type_of (mark table s))
  type_here s l = shows.types s l

  pub type_step : (s b t : ℕ) (bytes : List ℕ) (ends : Bool) → s < size table → b < 256 → to table s b ≡ Some t → type_after graph s (b ∷ bytes) ends ≡ type_after graph t bytes ends
  type_step s b t bytes ends l m e = let q = shows.next s b l m ∙ e in rw q refl

  pub type_stuck : (s b : ℕ) (bytes : List ℕ) (ends : Bool) → s < size table → b < 256 → to table s b ≡ None → type_after graph s (b ∷ bytes) ends ≡ None
  type_stuck s b bytes ends l m e = let q = shows.next s b l m ∙ e in rw q refl

  pub type_end : (s t : ℕ) → s < size table → to table s 256 ≡ Some t → type_after graph s [] true ≡ Some (type_of (mark table t))
  type_end s t l e = let q = shows.ends s l ∙ e in rw q (shows.types t (edge_within table s 256 t e).1)

  pub type_no_end : (s : ℕ) → s < size table → to table s 256 ≡ None → type_after graph s [] true ≡ None
  type_no_end s l e = let q = shows.ends s l ∙ e in rw q refl

  -- bytes, with or without the end after them, that distinguish two states
  abbrev pub Evidence : ℕ → ℕ → ℕ → Type 0
  Evidence n s t = (bytes : List ℕ) × (ends : Bool) × IsBytes bytes × (length bytes ≤ n) × Distinguishes graph s t bytes ends

  clash : {A : Type 0} (o : Option A) (x : A) → o ≡ None → o ≡ Some x → ⊥
  clash o x e f = cc

  module _ (ends_last : (s t k : ℕ) → to table s 256 ≡ Some t → to table t k ≡ None) where
    nil : IsBytes []
    nil = All-nil (λ b. b < 256)

    one : (b : ℕ) → b < 256 → IsBytes (b ∷ [])
    one b l = All-cons (λ b. b < 256) b [] l nil

    -- the byte leads on from exactly one of the two
    at_byte : (n s t k a : ℕ) → 1 ≤ n → s < size table → t < size table → k < 256 → to table s k ≡ Some a → to table t k ≡ None → Evidence n s t
    at_byte n s t k a some hs ht l e f = (
      k ∷ [],
      false,
      one k l,
      omega arith,
      λ q. clash (type_after graph t (k ∷ []) false) (type_of (mark table a)) (type_stuck t k [] false ht l f) (sym q ∙ type_step s k a [] false hs l e ∙ type_here a (edge_within table s k a e).1),
    )

    at_end : (n s t a : ℕ) → s < size table → t < size table → to table s 256 ≡ Some a → to table t 256 ≡ None → Evidence n s t
    at_end n s t a hs ht e f = (
      [],
      true,
      nil,
      omega arith,
      λ q. clash (type_after graph t [] true) (type_of (mark table a)) (type_no_end t ht f) (sym q ∙ type_end s a hs e),
    )

    turned : (n s t : ℕ) → Evidence n s t → Evidence n t s
    turned n s t x = (x.0, x.1, x.2, x.3, λ q. x.4 (sym q))

    -- after the end more symbols distinguish nothing
    after_end : (s a t b : ℕ) (word : List ℕ) → to table s 256 ≡ Some a → to table t 256 ≡ Some b → WordDistinguishes table a b word → mark table a ≢ mark table b
    after_end s a t b [] e f d = λ q. d (ap Some q)
    after_end s a t b (k ∷ word) e f d =
        let p = ends_last s a k e in
        let q = ends_last t b k f in
        absurd (d (ap (λ (o : Option ℕ). option_map (mark table) (state_after table o word)) p ∙ sym (ap (λ (o : Option ℕ). option_map (mark table) (state_after table o word)) q)))

    both_end : (n s t a b : ℕ) → s < size table → t < size table → to table s 256 ≡ Some a → to table t 256 ≡ Some b → mark table a ≢ mark table b → Evidence n s t
    both_end n s t a b hs ht e f d = (
      [],
      true,
      nil,
      omega arith,
      λ q. let z : Some (type_of (mark table a)) ≡ Some (type_of (mark table b)) = sym (type_end s a hs e) ∙ q ∙ type_end t b ht f in
          d (same_mark (mark table a) (mark table b) (cc)),
    )

    pub evidence : (word : List ℕ) (s t : ℕ) → s < size table → t < size table → WordDistinguishes table s t word → Evidence (length word) s t
    evidence [] s t hs ht d = (
      [],
      false,
      nil,
      omega arith,
      λ q. let z : Some (type_of (mark table s)) ≡ Some (type_of (mark table t)) = sym (type_here s hs) ∙ q ∙ type_here t ht in
          d (ap Some (same_mark (mark table s) (mark table t) (cc))),
    )
    evidence (k ∷ word) s t hs ht d = go (to table s k) refl (to table t k) refl (evidence word)
      where
        none_of : (o : Option ℕ) → o ≡ None → option_map (mark table) (state_after table o word) ≡ None
        none_of o e = ap (λ (o : Option ℕ). option_map (mark table) (state_after table o word)) e

        by_slot : (a : ℕ) → to table s k ≡ Some a → to table t k ≡ None → (k < 256) ⊎ (256 ≤ k) → Evidence (length (k ∷ word)) s t
        by_slot a e f (inl l) = at_byte (length (k ∷ word)) s t k a (omega arith) hs ht l e f
        by_slot a e f (inr l) =
            let m = edge_symbol table s k a e in
            let z : k ≡ 256 = omega arith in
            at_end (length (k ∷ word)) s t a hs ht (ap (to table s) (sym z) ∙ e) (ap (to table t) (sym z) ∙ f)

        other_slot : (b : ℕ) → to table s k ≡ None → to table t k ≡ Some b → (k < 256) ⊎ (256 ≤ k) → Evidence (length (k ∷ word)) s t
        other_slot b e f (inl l) = turned (length (k ∷ word)) t s (at_byte (length (k ∷ word)) t s k b (omega arith) ht hs l f e)
        other_slot b e f (inr l) =
            let m = edge_symbol table t k b f in
            let z : k ≡ 256 = omega arith in
            turned (length (k ∷ word)) t s (at_end (length (k ∷ word)) t s b ht hs (ap (to table t) (sym z) ∙ f) (ap (to table s) (sym z) ∙ e))

        on : (a b : ℕ) → to table s k ≡ Some a → to table t k ≡ Some b → WordDistinguishes table a b word → (k < 256) ⊎ (256 ≤ k) → ((s t : ℕ) → s < size table → t < size table → WordDistinguishes table s t word → Evidence (length word) s t) → Evidence (length (k ∷ word)) s t
        on a b e f q (inl l) ih =
            let x = ih a b (edge_within table s k a e).1 (edge_within table t k b f).1 q in (
              k ∷ x.0,
              x.1,
              All-cons (λ b. b < 256) k x.0 l x.2,
              let m = x.3 in omega arith,
              λ z. x.4 (sym (type_step s k a x.0 x.1 hs l e) ∙ z ∙ type_step t k b x.0 x.1 ht l f),
            )
        on a b e f q (inr l) ih =
            let m = edge_symbol table s k a e in
            let z : k ≡ 256 = omega arith in
            let e' = ap (to table s) (sym z) ∙ e in
            let f' = ap (to table t) (sym z) ∙ f in
            both_end (length (k ∷ word)) s t a b hs ht e' f' (after_end s a t b word e' f' q)

        go : (o : Option ℕ) → to table s k ≡ o → (p : Option ℕ) → to table t k ≡ p → ((s t : ℕ) → s < size table → t < size table → WordDistinguishes table s t word → Evidence (length word) s t) → Evidence (length (k ∷ word)) s t
        go None e None f ih = absurd (d (none_of (to table s k) e ∙ sym (none_of (to table t k) f)))
        go (Some a) e None f ih = by_slot a e f (cases_lt k 256)
        go None e (Some b) f ih = other_slot b e f (cases_lt k 256)
        go (Some a) e (Some b) f ih =
            on a b e f
            (λ q. d (ap (λ (o : Option ℕ). option_map (mark table) (state_after table o word)) e ∙ q ∙ sym (ap (λ (o : Option ℕ). option_map (mark table) (state_after table o word)) f)))
            (cases_lt k 256) ih
