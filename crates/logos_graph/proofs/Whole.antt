-- The clause of a finished graph, from the automaton and its reductions.
use Rattle.std.proofs.Common.{◌≡◌, ◌↔◌, ℕ, ◌<◌, ◌≤◌, ◌⊎◌, inl, inr, Bool, List, [], ◌∷◌, ◌++◌, length, Option, Some, None, option_map, option_and_then, refl, sym, ◌∙◌, ap, subst, arith}
use Rattle.std.proofs.lemmas.Bool.{cases_lt}
use Rattle.std.proofs.lemmas.List.Elements.{All-append, All-cons, All-nil}
use Rattle.logos_hir.specs.Text.{IsBytes}
use Rattle.logos_automaton.specs.Munch.{Rule, IsInput, IsFirst, Found, Finds}
use Rattle.logos_automaton.specs.Faults.{AreFaults}
use Rattle.logos_graph.specs.Graph.{GraphState}
use Rattle.logos_graph.specs.Reduced.{IsSettled}
use Rattle.logos_automaton.specs.Automaton.{Automaton, ReadsOneByteLate}
use Rattle.logos_graph.specs.inside.Walk.{MarksOneByteLate, edges_of, edges_of_automaton, GraphFindsByWalk}
use Rattle.logos_graph.proofs.Steps.{first_byte, other_bytes}
use Rattle.logos_graph.proofs.Raw.{FirstOrNone, reach_next}
use Rattle.logos_graph.proofs.Settled.{AreSettled, AllAccept}
use Rattle.logos_graph.proofs.Pruned.{IsPruned, IsKept, IsUseful}
use Rattle.logos_graph.proofs.Maps.{IsMap}
use Rattle.logos_graph.proofs.Longest.{finds_the_longest}
use Rattle.logos_graph.proofs.Automaton.{no_faults, marks_late}
use Rattle.logos_reduce.specs.Edges.{StateType, Edges, reach}

-- the graph comes from the automaton by early marks, dropped late marks, pruning, and a map of
-- states
pub record IsReductionOf (rules : List Rule) (dfa : Automaton) (graph : List GraphState) : Type 1 where
  pub types : ℕ → StateType
  pub settled : AreSettled (edges_of_automaton rules dfa).next (edges_of_automaton rules dfa).at_end (edges_of_automaton rules dfa).type_of types
  pub ends : (s t : ℕ) → (edges_of_automaton rules dfa).at_end s ≡ Some t → (types t).early ≡ None
  pub useful : Edges ℕ
  pub pruned : IsPruned (record { type_of = types; next = (edges_of_automaton rules dfa).next; at_end = (edges_of_automaton rules dfa).at_end }) useful
  pub IsIn : ℕ → Type 0
  pub to : ℕ → ℕ
  pub mapped : IsMap IsIn to useful (edges_of graph)
  pub start_in : IsIn dfa.start
  pub start : to dfa.start ≡ 0

pub graph_finds_the_longest : (rules : List Rule) (dfa : Automaton) (graph : List GraphState) → AreFaults rules [] → ReadsOneByteLate rules dfa → IsReductionOf rules dfa graph →
    (utf8 : Bool) (bytes : List ℕ) (from : ℕ) (found : Found) → IsInput utf8 bytes → GraphFindsByWalk graph utf8 bytes from found ↔ Finds rules utf8 bytes from found
graph_finds_the_longest rules dfa graph faults reads r utf8 bytes from found ok =
    let n = no_faults rules faults in
    let h = finds_the_longest rules n.0 (edges_of_automaton rules dfa) dfa.start (marks_late rules dfa n.1 reads) r.types r.settled r.ends r.useful r.pruned r.IsIn r.to (edges_of graph) r.mapped r.start_in utf8 bytes from ok.0 found in
    rw r.start at h

-- one leaf is first
first_is_one : (rules : List Rule) (bytes : List ℕ) (from to a b : ℕ) → IsFirst rules bytes from to a → IsFirst rules bytes from to b → a ≡ b
first_is_one rules bytes from to a b x y = go (cases_lt a b) (cases_lt b a)
  where
    differ : (a ≡ b → ⊥) → ⊥
    differ d = let p = y.first a d x.matches in let q = x.first b (λ e. d (sym e)) y.matches in omega arith

    go : (a < b) ⊎ (b ≤ a) → (b < a) ⊎ (a ≤ b) → a ≡ b
    go (inl l) m = absurd (differ (λ e. omega arith))
    go (inr l) (inl m) = absurd (differ (λ e. omega arith))
    go (inr l) (inr m) = omega arith

module _ (rules : List Rule) {S : Type 0} (g : Edges S) (root : S) (reads : MarksOneByteLate rules g root) where
  accepted : (type : StateType) (bytes : List ℕ) (from to leaf : ℕ) → FirstOrNone rules type.accept bytes from to → (type.accept ≡ Some leaf) ↔ IsFirst rules bytes from to leaf
  accepted type bytes from to leaf f = go type.accept f
    where
      go : (x : Option ℕ) → FirstOrNone rules x bytes from to → (x ≡ Some leaf) ↔ IsFirst rules bytes from to leaf
      go None none = (λ e. absurd (cc), λ h. absurd (none leaf h.matches))
      go (Some l) first =
          (λ e. let q : l ≡ leaf = cc in subst (IsFirst rules bytes from to) q first, λ h. ap Some (first_is_one rules bytes from to l leaf first h))

  -- all children accept a leaf exactly where it is settled
  pub all_accept_settled : (bytes : List ℕ) (s : S) (leaf : ℕ) → IsBytes bytes → reach g root bytes ≡ Some s →
      AllAccept g.next g.at_end g.type_of s leaf ↔ IsSettled rules bytes leaf
  all_accept_settled bytes s leaf ok way = (there, back)
    where
      one_more : (b : ℕ) → b < 256 → IsBytes (bytes ++ b ∷ [])
      one_more b l = All-append (λ b. b < 256) bytes (b ∷ []) ok (All-cons (λ b. b < 256) b [] l (All-nil (λ b. b < 256)))

      there : AllAccept g.next g.at_end g.type_of s leaf → IsSettled rules bytes leaf
      there h = record { before = before; at_end = at_end }
        where
          before : (b : ℕ) → b < 256 → IsFirst rules (bytes ++ b ∷ []) 0 (length bytes) leaf
          before b l =
              let c = h.by_byte b l in
              let q = reads.by_byte bytes b (one_more b l) in
              let e = reach_next g bytes b root s q.0 way q.1 in
              let step : g.next s b ≡ Some c.0 = c.1 in
              let same : c.0 ≡ q.0 = cc (e, step) in
              (accepted (g.type_of q.0) (bytes ++ b ∷ []) 0 (length bytes) leaf q.2.first).0 (ap (λ x. (g.type_of x).accept) (sym same) ∙ c.2)

          at_end : IsFirst rules bytes 0 (length bytes) leaf
          at_end =
              let c = h.by_end in
              let q = reads.at_end bytes ok in
              let here : q.0 ≡ s = cc (way, q.2) in
              let e : g.at_end s ≡ Some q.1 = ap g.at_end (sym here) ∙ q.3 in
              let step : g.at_end s ≡ Some c.0 = c.1 in
              let same : c.0 ≡ q.1 = cc (e, step) in
              (accepted (g.type_of q.1) bytes 0 (length bytes) leaf q.4.first).0 (ap (λ x. (g.type_of x).accept) (sym same) ∙ c.2)

      back : IsSettled rules bytes leaf → AllAccept g.next g.at_end g.type_of s leaf
      back h = record { by_byte = by_byte; by_end = by_end }
        where
          by_byte : (b : ℕ) → b < 256 → (t : S) × (g.next s b ≡ Some t) × ((g.type_of t).accept ≡ Some leaf)
          by_byte b l =
              let q = reads.by_byte bytes b (one_more b l) in
              (q.0, reach_next g bytes b root s q.0 way q.1, (accepted (g.type_of q.0) (bytes ++ b ∷ []) 0 (length bytes) leaf q.2.first).1 (h.before b l))

          by_end : (t : S) × (g.at_end s ≡ Some t) × ((g.type_of t).accept ≡ Some leaf)
          by_end =
              let q = reads.at_end bytes ok in
              let here : q.0 ≡ s = cc (way, q.2) in
              (q.1, ap g.at_end (sym here) ∙ q.3, (accepted (g.type_of q.1) bytes 0 (length bytes) leaf q.4.first).1 h.at_end)

-- bytes that can be followed in the finished graph can be followed in the automaton, to a state of
-- the same type
module _ {S T : Type 0} (g h : Edges S) (p : IsPruned g h) (IsIn : S → Type 0) (f : S → T) (k : Edges T) (m : IsMap IsIn f h k) where
  pub same_type : (bytes : List ℕ) → IsBytes bytes → (s : S) → IsIn s → (t : T) → reach k (f s) bytes ≡ Some t → (u : S) × (reach g s bytes ≡ Some u) × (k.type_of t ≡ g.type_of u)
  same_type [] ok s i t e = let q : f s ≡ t = cc in (s, refl, ap k.type_of (sym q) ∙ m.types s i ∙ p.types s)
  same_type (b ∷ bytes) ok s i t e =
      go (h.next s b) refl (g.next s b) (p.edges s b (first_byte b bytes ok)) (rw (m.edges s b (first_byte b bytes ok) i) at e) (same_type bytes (other_bytes b bytes ok))
    where
      go : (o : Option S) → h.next s b ≡ o → (o' : Option S) → IsKept (IsUseful g h) o' (h.next s b) → option_and_then (λ t. reach k t bytes) (option_map f o) ≡ Some t →
          ((s : S) → IsIn s → (t : T) → reach k (f s) bytes ≡ Some t → (u : S) × (reach g s bytes ≡ Some u) × (k.type_of t ≡ g.type_of u)) →
          (u : S) × (option_and_then (λ t. reach g t bytes) o' ≡ Some u) × (k.type_of t ≡ g.type_of u)
      go None q o' kept x ih = absurd (cc)
      go (Some v) q None kept x ih = absurd (cc)
      go (Some v) q (Some w) (inl kept) x ih =
          let same : v ≡ w = cc (kept.0) in
          let r = ih v (m.inside s v b (first_byte b bytes ok) i q) t x in
          (r.0, subst (λ z. reach g z bytes ≡ Some r.0) same r.1, r.2)
      go (Some v) q (Some w) (inr kept) x ih = absurd (cc (kept.0))

-- a state reached by bytes alone is early for the leaf that is settled there, and for no other
pub graph_early : (rules : List Rule) (dfa : Automaton) (graph : List GraphState) → AreFaults rules [] → ReadsOneByteLate rules dfa → (r : IsReductionOf rules dfa graph) →
    ((s leaf : ℕ) → AllAccept (edges_of_automaton rules dfa).next (edges_of_automaton rules dfa).at_end (edges_of_automaton rules dfa).type_of s leaf → (r.types s).early ≡ Some leaf) →
    (bytes : List ℕ) (s leaf : ℕ) → IsBytes bytes → reach (edges_of graph) 0 bytes ≡ Some s → (((edges_of graph).type_of s).early ≡ Some leaf) ↔ IsSettled rules bytes leaf
graph_early rules dfa graph faults reads r all bytes s leaf ok way =
    let n = no_faults rules faults in
    let raw = edges_of_automaton rules dfa in
    let start : reach (edges_of graph) (r.to dfa.start) bytes ≡ Some s = rw r.start way in
    let u = same_type {S = ℕ} {T = ℕ} (record { type_of = r.types; next = (edges_of_automaton rules dfa).next; at_end = (edges_of_automaton rules dfa).at_end }) r.useful r.pruned r.IsIn r.to (edges_of graph) r.mapped bytes ok dfa.start r.start_in s start in
    let a = all_accept_settled rules raw dfa.start (marks_late rules dfa n.1 reads) bytes u.0 leaf ok (reached u.0 u.1) in
    (λ e. a.0 (r.settled.early u.0 leaf (ap (λ (x : StateType). x.early) (sym u.2) ∙ e)), λ h. ap (λ (x : StateType). x.early) u.2 ∙ all u.0 leaf (a.1 h))
  where
    -- the types play no part in a walk
    reached : (t : ℕ) → reach (record { type_of = r.types; next = (edges_of_automaton rules dfa).next; at_end = (edges_of_automaton rules dfa).at_end }) dfa.start bytes ≡ Some t →
        reach (edges_of_automaton rules dfa) dfa.start bytes ≡ Some t
    reached t e = sym (same_walk bytes dfa.start) ∙ e
      where
        same_walk : (bytes : List ℕ) (s : ℕ) →
            reach (record { type_of = r.types; next = (edges_of_automaton rules dfa).next; at_end = (edges_of_automaton rules dfa).at_end }) s bytes ≡ reach (edges_of_automaton rules dfa) s bytes
        same_walk [] s = refl
        same_walk (b ∷ bytes) s = ap (λ (f : ℕ → Option ℕ). option_and_then f ((edges_of_automaton rules dfa).next s b)) (λ i x. same_walk bytes x i)
