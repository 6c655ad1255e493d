-- The flags of leaves, state by state, and the matches that a graph finds.
use Rattle.std.proofs.Common.{◌≡◌, ◌<◌, ◌+◌, ◌-◌, ◌⊎◌, ◌↔◌, ℕ, Bool, true, false, List, [], length, slice_get, Option, Some, None, option_map, refl, sym, ap, ◌∙◌, inl, inr, subst, slice_index_or, replicate, arith}
use Rattle.std.specs.Option.{option_and_then}
use Rattle.std.proofs.lemmas.List.{length-replicate}
use Rattle.std.proofs.lemmas.Option.{slice_get_within}
use Rattle.logos_automaton.specs.Munch.{matched}
use Rattle.logos_graph.specs.Found.{mark_of, IsLastMark}
use Rattle.logos_graph.specs.Graph.{GraphState}
use Rattle.logos_graph.specs.GraphOf.{IsGraphOf}
use Rattle.logos_graph.specs.View.{GraphValue, rules_of}
use Rattle.logos_reduce.proofs.tables.PushLemmas.{filled}
use Rattle.logos_reduce.specs.Edges.{StateType}
use Rattle.logos_inspect.specs.Marks.{Marks, IsMarkedBelow, IsMarked, IsSet, IsNeverFound}
use Rattle.logos_inspect.specs.inside.Steps.{AreMarksBelow}

-- ---- One more state

module _ (states : List GraphState) (count : ℕ) (state : GraphState) (occurs : slice_get states count ≡ Some state) where
  marked_more : (leaf : ℕ) → IsMarkedBelow states count leaf ⊎ Marks state.state_type leaf → IsMarkedBelow states (count + 1) leaf
  marked_more leaf (inl m) = record { number = m.number; below = omega (arith, m.below); state = m.state; occurs = m.occurs; marks = m.marks }
  marked_more leaf (inr m) = record { number = count; below = omega arith; state = state; occurs = occurs; marks = m }

  marked_less : (leaf : ℕ) → IsMarkedBelow states (count + 1) leaf → IsMarkedBelow states count leaf ⊎ Marks state.state_type leaf
  marked_less leaf m =
      let b = m.below in
      let cases : (m.number < count) ⊎ (m.number ≡ count) = grind arith in
      go cases
    where
      go : (m.number < count) ⊎ (m.number ≡ count) → IsMarkedBelow states count leaf ⊎ Marks state.state_type leaf
      go (inl l) = inl (record { number = m.number; below = l; state = m.state; occurs = m.occurs; marks = m.marks })
      go (inr e) =
          let found : Some m.state ≡ Some state = sym m.occurs ∙ ap (slice_get states) e ∙ occurs in
          let same : m.state ≡ state = cc in
          inr (subst (λ (s : GraphState). Marks s.state_type leaf) same m.marks)

  pub marks_turn : (leaves : ℕ) (before after : List Bool) → AreMarksBelow states leaves count before → length after ≡ length before →
      ((k : ℕ) → k < length before → IsSet after k ↔ (IsSet before k ⊎ Marks state.state_type k)) → AreMarksBelow states leaves (count + 1) after
  marks_turn leaves before after are same each = record {
    length_is = same ∙ are.length_is;
    each = λ leaf l.
        let inside : leaf < length before = omega (arith, are.length_is) in
        (λ set. marked_more leaf (turned leaf l ((each leaf inside).0 set)), λ m. (each leaf inside).1 (back leaf l (marked_less leaf m)));
  }
    where
      turned : (leaf : ℕ) → leaf < leaves → IsSet before leaf ⊎ Marks state.state_type leaf → IsMarkedBelow states count leaf ⊎ Marks state.state_type leaf
      turned leaf l (inl set) = inl ((are.each leaf l).0 set)
      turned leaf l (inr m) = inr m

      back : (leaf : ℕ) → leaf < leaves → IsMarkedBelow states count leaf ⊎ Marks state.state_type leaf → IsSet before leaf ⊎ Marks state.state_type leaf
      back leaf l (inl m) = inl ((are.each leaf l).1 m)
      back leaf l (inr m) = inr m

-- no state marks a leaf before the first one
pub no_marks : (states : List GraphState) (leaves : ℕ) (flags : List Bool) → flags ≡ replicate leaves false → AreMarksBelow states leaves 0 flags
no_marks states leaves flags are = record {
  length_is = ap length are ∙ length-replicate leaves false;
  each = λ leaf l. (λ set. absurd (unset leaf set), λ m. absurd (let b = m.below in omega arith));
}
  where
    unset : (leaf : ℕ) → ¬ IsSet flags leaf
    unset leaf set = let clash : false ≡ true = sym (ap (λ (xs : List Bool). slice_index_or xs leaf false) are ∙ filled leaves leaf false) ∙ set in cc

-- ---- A leaf that is not marked is not found

marked_by : (accept early : Option ℕ) (n leaf size : ℕ) → mark_of (record { accept = accept; early = early }) n ≡ Some (leaf, size) → Marks (record { accept = accept; early = early }) leaf
marked_by accept (Some k) n leaf size e =
    let pair : ◌≡◌ {A = ℕ × ℕ} (k, n) (leaf, size) = cc in
    inr (ap Some (ap (λ p. p.0) pair))
marked_by (Some k) None n leaf size e =
    let pair : ◌≡◌ {A = ℕ × ℕ} (k, n - 1) (leaf, size) = cc in
    inl (ap Some (ap (λ p. p.0) pair))
marked_by None None n leaf size e = cc

module _ (states : List GraphState) (leaf : ℕ) where
  -- a state that a walk leads to is one of the graph
  occurs_after : (next : Option ℕ) (type : StateType) →
      option_and_then (λ t. option_map (λ state. state.state_type) (slice_get states t)) next ≡ Some type → Marks type leaf → IsMarked states leaf
  occurs_after None type e marks = cc
  occurs_after (Some t) type e marks = go (slice_get states t) refl
    where
      go : (found : Option GraphState) → slice_get states t ≡ found → IsMarked states leaf
      go None is =
          let gone : None ≡ Some type = sym (ap (option_map (λ (state : GraphState). state.state_type)) is) ∙ e in
          cc
      go (Some state) is =
          let same : Some state.state_type ≡ Some type = sym (ap (option_map (λ (state : GraphState). state.state_type)) is) ∙ e in
          let type_is : state.state_type ≡ type = cc in
          record {
            number = t;
            below = slice_get_within states t state is;
            state = state;
            occurs = is;
            marks = subst (λ (k : StateType). Marks k leaf) (sym type_is) marks;
          }

  marked_after : (next : Option StateType) (n size : ℕ) → option_and_then (λ type. mark_of type n) next ≡ Some (leaf, size) →
      ((type : StateType) → next ≡ Some type → Marks type leaf → IsMarked states leaf) → IsMarked states leaf
  marked_after None n size e occurs = cc
  marked_after (Some type) n size e occurs = occurs type refl (marked_by type.accept type.early n leaf size e)

  pub last_is_marked : (utf8 : Bool) (bytes : List ℕ) (from to : ℕ) → IsLastMark states utf8 bytes from leaf to → IsMarked states leaf
  last_is_marked utf8 bytes from to last = marked_after _ last.at last.size last.mark (λ type e marks. occurs_after _ type e marks)

pub never_found : (graph : GraphValue) (flags : List Bool) → AreMarksBelow graph.states (length graph.leaves) (length graph.states) flags →
    IsGraphOf graph.leaves graph.utf8 graph → graph.faults ≡ [] →
    (leaf : ℕ) → leaf < length graph.leaves → ¬ IsSet flags leaf → IsNeverFound (rules_of graph.leaves) graph.utf8 leaf
never_found graph flags are of_leaves faultless leaf l unset bytes from to input finds =
    let found = (of_leaves.finds faultless bytes from (matched leaf to) input).1 finds in
    unset ((are.each leaf l).1 (last_is_marked graph.states leaf graph.utf8 bytes from to found.1))
