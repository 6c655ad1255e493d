-- A machine that follows a graph looks for inputs on which a leaf is found first.
use Rattle.std.proofs.Common.{◌≡◌, ℕ, ◌+◌, ◌==◌, Bool, true, false, List, [], ◌∷◌, drop, length, Option, None, Some, MatchOption, refl, sym, ap, ◌∙◌, subst, arith, eq-eqb}
use Rattle.std.specs.Option.{option_or}
use Rattle.std.proofs.lemmas.Bool.Decides.{nat_tests}
use Rattle.std.proofs.lemmas.Option.{same_Some}
use Rattle.logos_automaton.specs.Munch.{Rule, IsInput, Finds, matched}
use Rattle.logos_graph.specs.FinishedGraph.{IsFinished}
use Rattle.logos_graph.specs.Found.{FindsTheLongest}
use Rattle.logos_graph.specs.Graph.{GraphState}
use Rattle.logos_graph.specs.GraphOf.{IsGraphOf}
use Rattle.logos_graph.specs.View.{GraphValue, rules_of}
use Rattle.logos_evidence.specs.search.Machines.{after, Leads}
use Rattle.logos_evidence.specs.search.Shortest.{NoneLeads, IsShortest}
use Rattle.logos_evidence.specs.declared.search.point.Point.{Point}
use Rattle.logos_evidence.specs.Examples.{IsExample, IsShortestExample, HasNoExample}
use Rattle.logos_evidence.specs.inside.Lasts.{mark_by, mark_at_end, step_to, with_size, last_from}
use Rattle.logos_evidence.specs.inside.Machines.{is_last, point_from, first_point, example_next, example_goal}
use Rattle.logos_evidence.proofs.FoundLemmas.{last_found, found_last}
use Rattle.logos_evidence.proofs.InputLemmas.{input_on}

-- the consequences of the two cases of an answer
pub answer_on : {V : Type 0} (P Q : Type 0) (A B : V → Type 0) → (P → Q) → ((v : V) → A v → B v) → (o : Option V) → MatchOption o P A → MatchOption o Q B
answer_on P Q A B none some None h = none h
answer_on P Q A B none some (Some v) h = some v h

pub some_of : {V : Type 0} (P : Type 0) (A : V → Type 0) (o : Option V) (v : V) → o ≡ Some v → MatchOption o P A → A v
some_of P A o v e h = subst (λ (x : Option _). MatchOption x P A) e h

pub none_of : {V : Type 0} (P : Type 0) (A : V → Type 0) (o : Option V) → o ≡ None → MatchOption o P A → P
none_of P A o e h = subst (λ (x : Option _). MatchOption x P A) e h

module _ (graph : List GraphState) (leaf : ℕ) where
  abbrev pub won : Option (ℕ × ℕ) → Bool → Bool
  won None before = before
  won (Some x) before = x.0 == leaf

  pub is_won : (o : Option ℕ) (n : ℕ) (before : Bool) → is_last leaf o before ≡ won (with_size n o) before
  is_won None n before = refl
  is_won (Some k) n before = refl

  pub or_won : (o : Option (ℕ × ℕ)) (m : Option ℕ) (n : ℕ) (before : Bool) → won o (is_last leaf m before) ≡ won (option_or o (with_size n m)) before
  or_won None m n before = is_won m n before
  or_won (Some x) m n before = refl

  -- a result for the rest completes to a result for the whole
  goes : (bytes : List ℕ) (p : Point) (n : ℕ) →
      (q : Point) × (after (example_next graph leaf) p bytes ≡ Some q) × (example_goal graph leaf q ≡ won (last_from graph p.here n bytes) p.last)
  goes [] p n = (p, refl, is_won (mark_at_end graph p.here) n p.last)
  goes (b ∷ bytes) p n =
      let rest = goes bytes (record {
        here = step_to graph p.here b;
        there = 0;
        begun = false;
        met = false;
        last = is_last leaf (mark_by graph p.here b) p.last;
      }) (n + 1) in
      (rest.0, rest.1, rest.2 ∙ or_won (last_from graph (step_to graph p.here b) (n + 1) bytes) (mark_by graph p.here b) n p.last)

  is_leaf : (k : ℕ) → (k == leaf) ≡ true → k ≡ leaf
  is_leaf k e = grind (arith, nat_tests)

  won_by : (o : Option (ℕ × ℕ)) → won o false ≡ true → (to : ℕ) × (o ≡ Some (leaf, to))
  won_by None e = cc
  won_by (Some x) e = (x.1, ap Some (pair_of x (is_leaf x.0 e)))
    where
      pair_of : (p : ℕ × ℕ) → p.0 ≡ leaf → p ≡ (leaf, p.1)
      pair_of p a = λ i. (a i, p.1)

  module _ (leaves : ℕ) (finished : IsFinished graph leaves) (rules : List Rule) (utf8 : Bool) (finds : FindsTheLongest rules utf8 graph) where
    leads_example : (bytes : List ℕ) → Leads (example_next graph leaf) (example_goal graph leaf) utf8 first_point bytes → IsExample rules utf8 leaf bytes
    leads_example bytes leads =
        let run = goes bytes first_point 0 in
        let end : run.0 ≡ leads.end = same_Some _ _ (sym run.1 ∙ leads.way) in
        let goal : won (last_from graph 0 0 bytes) false ≡ true = sym run.2 ∙ ap (example_goal graph leaf) end ∙ leads.goal in
        let last = won_by (last_from graph 0 0 bytes) goal in
        record {
          input = leads.input;
          to = 0 + last.0;
          found = (finds bytes 0 (matched leaf (0 + last.0)) leads.input).0 (last_found graph leaves finished utf8 bytes 0 leaf last.0 last.1);
        }

    found_leads : (bytes : List ℕ) (from to : ℕ) → IsInput utf8 bytes → IsInput utf8 (drop from bytes) → Finds rules utf8 bytes from (matched leaf to) →
        Leads (example_next graph leaf) (example_goal graph leaf) utf8 first_point (drop from bytes)
    found_leads bytes from to input rest found =
        let run = goes (drop from bytes) first_point 0 in
        let last = found_last graph leaves finished utf8 bytes from leaf to ((finds bytes from (matched leaf to) input).1 found) in
        record {
          input = rest;
          end = run.0;
          way = run.1;
          goal = run.2 ∙ ap (λ (o : Option (ℕ × ℕ)). won o false) last.2 ∙ eq-eqb leaf leaf refl;
        }

    pub no_example : NoneLeads (example_next graph leaf) (example_goal graph leaf) utf8 first_point → HasNoExample rules utf8 leaf
    no_example none bytes from to input at found = none (drop from bytes) (found_leads bytes from to input (input_on utf8 bytes from input at) found)

    pub shortest_example : (bytes : List ℕ) → IsShortest (example_next graph leaf) (example_goal graph leaf) utf8 first_point bytes → IsShortestExample rules utf8 leaf bytes
    shortest_example bytes shortest = record {
      example = leads_example bytes shortest.leads;
      least = λ other example. shortest.least other (found_leads other 0 example.to example.input example.input example.found);
    }

-- the answer of the search as that of the call
pub example_is : {V : Type 0} (graph : GraphValue) (states : List GraphState) (leaf : ℕ) (utf8 : Bool) (start : Point) (items : V → List ℕ) (o : Option V) →
    states ≡ graph.states → utf8 ≡ graph.utf8 → start ≡ point_from 0 → IsGraphOf graph.leaves graph.utf8 graph → graph.faults ≡ [] → IsFinished graph.states (length graph.leaves) →
    MatchOption o (NoneLeads (example_next states leaf) (example_goal states leaf) utf8 start) (λ v. IsShortest (example_next states leaf) (example_goal states leaf) utf8 start (items v)) →
    MatchOption o (HasNoExample (rules_of graph.leaves) graph.utf8 leaf) (λ v. IsShortestExample (rules_of graph.leaves) graph.utf8 leaf (items v))
example_is graph states leaf utf8 start items o e f g of_leaves faultless finished h =
    answer_on _ _ _ _
    (no_example graph.states leaf (length graph.leaves) finished (rules_of graph.leaves) graph.utf8 (of_leaves.finds faultless))
    (λ v. shortest_example graph.states leaf (length graph.leaves) finished (rules_of graph.leaves) graph.utf8 (of_leaves.finds faultless) (items v))
    o
    (subst (λ (p : Point). MatchOption o (NoneLeads (example_next graph.states leaf) (example_goal graph.states leaf) graph.utf8 p) (λ v. IsShortest (example_next graph.states leaf) (example_goal graph.states leaf) graph.utf8 p (items v))) g
    (subst (λ (m : Bool). MatchOption o (NoneLeads (example_next graph.states leaf) (example_goal graph.states leaf) m start) (λ v. IsShortest (example_next graph.states leaf) (example_goal graph.states leaf) m start (items v))) f
    (subst (λ (s : List GraphState). MatchOption o (NoneLeads (example_next s leaf) (example_goal s leaf) utf8 start) (λ v. IsShortest (example_next s leaf) (example_goal s leaf) utf8 start (items v))) e h)))
