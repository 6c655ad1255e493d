-- A machine that follows an automaton and its graph finds where a leaf loses.
use Rattle.std.proofs.Common.{◌≡◌, ◌≢◌, ℕ, zero, suc, ◌+◌, ◌<◌, ◌⊎◌, ◌==◌, Bool, true, false, not, ◌&&◌, ◌||◌, List, [], ◌∷◌, ◌++◌, Contains, MatchOption, Option, None, Some, length, map, slice_get, option_map, option_and_then, refl, sym, ap, ◌∙◌, subst, inl, inr, arith, eq-eqb}
use Rattle.std.specs.List.{list_any}
use Rattle.std.proofs.lemmas.Bool.{and_parts, ne_eqb}
use Rattle.std.proofs.lemmas.Bool.Decides.{nat_tests}
use Rattle.std.proofs.lemmas.Option.{same_Some}
use Rattle.logos_hir.specs.Text.{IsBytes}
use Rattle.logos_hir.specs.Passable.{passable}
use Rattle.logos_hir.proofs.tree.Laws.{passes}
use Rattle.logos_automaton.specs.Automaton.{Automaton, dfa_next, ReadsOneByteLate}
use Rattle.logos_automaton.specs.Faults.{AllStart, some_passable}
use Rattle.logos_automaton.specs.Munch.{Rule, RuleMatches, priority_of, matched, failed}
use Rattle.logos_graph.specs.FinishedGraph.{IsFinished}
use Rattle.logos_graph.specs.Found.{FindsTheLongest}
use Rattle.logos_graph.specs.Graph.{GraphState}
use Rattle.logos_graph.specs.GraphOf.{IsGraphOf}
use Rattle.logos_graph.specs.View.{GraphValue, rules_of}
use Rattle.logos_graph.proofs.Automaton.{no_faults}
use Rattle.logos_automaton.specs.Faults.{AreFaults}
use Rattle.logos_evidence.specs.search.Machines.{after, Leads}
use Rattle.logos_evidence.specs.search.Shortest.{NoneLeads, IsShortest}
use Rattle.logos_evidence.specs.declared.search.point.Point.{Point}
use Rattle.logos_evidence.specs.Losses.{IsLoss, IsShortestLoss, NeverLoses}
use Rattle.logos_evidence.specs.Matching.{AreMatches}
use Rattle.logos_evidence.specs.inside.Lasts.{mark_by, mark_at_end, step_to, last_from}
use Rattle.logos_evidence.specs.inside.Listed.{match_to, matches_in, matches_at, listed}
use Rattle.logos_evidence.specs.inside.Machines.{is_last, lists, point_from, loss_at, loss_next, loss_goal}
use Rattle.logos_evidence.specs.inside.Steps.{listed_at_end}
use Rattle.logos_evidence.specs.declared.matches.Match.{Match}
use Rattle.logos_evidence.proofs.CompareLemmas.{fails}
use Rattle.logos_evidence.proofs.ExampleLemmas.{answer_on}
use Rattle.logos_evidence.proofs.ExampleLemmas.{won, is_won, or_won}
use Rattle.logos_evidence.proofs.FoundLemmas.{last_found, found_last}
use Rattle.logos_evidence.proofs.ListFacts.{none_in, first_in, rest_in, in_cases}
use Rattle.logos_evidence.proofs.MatchingLemmas.{matches_are}
use Rattle.logos_evidence.proofs.WindowLemmas.{front_bytes, moved_bytes, inside, IsState, next_state, last_lists}

-- ---- Tests of lists

any_append : {X : Type 0} (p : X → Bool) (xs ys : List X) → list_any p (xs ++ ys) ≡ (list_any p xs || list_any p ys)
any_append p [] ys = refl
any_append p (x ∷ xs) ys = go (p x) (any_append p xs ys)
  where
    go : (b : Bool) → list_any p (xs ++ ys) ≡ (list_any p xs || list_any p ys) → (b || list_any p (xs ++ ys)) ≡ ((b || list_any p xs) || list_any p ys)
    go true e = refl
    go false e = e

any_in : {X : Type 0} (p : X → Bool) (xs : List X) (x : X) → Contains xs x → p x ≡ true → list_any p xs ≡ true
any_in p [] x c e = absurd (none_in x c)
any_in p (y ∷ xs) x c e = go (any_in p xs x) (in_cases y x xs c)
  where
    or_true : (b c : Bool) → c ≡ true → (b || c) ≡ true
    or_true true c h = refl
    or_true false c h = h

    true_or : (b c : Bool) → b ≡ true → (b || c) ≡ true
    true_or true c h = refl
    true_or false c h = cc

    go : (Contains xs x → p x ≡ true → list_any p xs ≡ true) → (y ≡ x) ⊎ Contains xs x → list_any p (y ∷ xs) ≡ true
    go ih (inl s) = true_or (p y) (list_any p xs) (ap p s ∙ e)
    go ih (inr d) = or_true (p y) (list_any p xs) (ih d e)

in_any : {X : Type 0} (p : X → Bool) (xs : List X) → list_any p xs ≡ true → (x : X) × Contains xs x × (p x ≡ true)
in_any p [] e = cc
in_any p (x ∷ xs) e = go (p x) refl e (in_any p xs)
  where
    go : (b : Bool) → p x ≡ b → (b || list_any p xs) ≡ true → (list_any p xs ≡ true → (y : _) × Contains xs y × (p y ≡ true)) → (y : _) × Contains (x ∷ xs) y × (p y ≡ true)
    go true is e ih = (x, first_in x xs, is)
    go false is e ih = let r = ih e in (r.0, rest_in x r.0 xs r.1, r.2)

or_assoc : (a b c : Bool) → ((a || b) || c) ≡ (a || (b || c))
or_assoc true b c = refl
or_assoc false b c = refl

not_is : (a : Bool) → not a ≡ true → a ≡ false
not_is true e = cc
not_is false e = refl

both_true : (a b : Bool) → a ≡ true → b ≡ true → (a && b) ≡ true
both_true true b p q = q
both_true false b p q = cc

-- ---- Empty matches

-- a leaf that matches nothing can be passed
empty_passes : (rules : List Rule) (leaf : ℕ) (bytes : List ℕ) → some_passable rules ≡ false → RuleMatches rules leaf bytes 0 0 → ⊥
empty_passes [] leaf bytes f m = absurd m
empty_passes (rule ∷ rules) zero bytes f m = go (passable rule.tree) refl f
  where
    go : (b : Bool) → passable rule.tree ≡ b → (b || some_passable rules) ≡ false → ⊥
    go true is e = cc
    go false is e = let p : passable rule.tree ≡ true = passes rule.tree bytes 0 (omega arith) m in let clash : true ≡ false = sym p ∙ is in cc
empty_passes (rule ∷ rules) (suc leaf) bytes f m = empty_passes rules leaf bytes (rest (passable rule.tree) f) m
  where
    rest : (b : Bool) → (b || some_passable rules) ≡ false → some_passable rules ≡ false
    rest true e = cc
    rest false e = e

-- ---- The machine

module _ (rules : List Rule) (dfa : Automaton) (late : ReadsOneByteLate rules dfa) (starts : AllStart rules) (graph : List GraphState) (leaf : ℕ) where
  abbrev next : Point → ℕ → Option Point
  next = loss_next dfa graph leaf

  abbrev goal : Point → Bool
  goal = loss_goal dfa graph leaf

  abbrev is_leaf : Match → Bool
  is_leaf m = m.leaf == leaf

  -- whether the leaf matches on the rest
  abbrev met_on : ℕ → Option ℕ → List ℕ → Bool
  met_on site o rest = list_any is_leaf (listed dfa (priority_of rules) site o rest)

  any_map : (site : ℕ) (leaves : List ℕ) → list_any (λ other. other == leaf) leaves ≡ list_any is_leaf (map (match_to (priority_of rules) site) leaves)
  any_map site [] = refl
  any_map site (x ∷ leaves) = ap (λ (b : Bool). (x == leaf) || b) (any_map site leaves)

  lists_is : (site : ℕ) (o : Option (List ℕ)) → lists leaf o ≡ list_any is_leaf (matches_in dfa (priority_of rules) site o)
  lists_is site None = refl
  lists_is site (Some leaves) = any_map site leaves

  abbrev Continues : Point → ℕ → List ℕ → Type 0
  Continues p site rest = (q : Point) × (after next p rest ≡ Some q)
      × (goal q ≡ ((p.met || met_on site (Some p.here) rest) && not (won graph leaf (last_from graph p.there site rest) p.last)))

  -- a result for the rest completes to a result for the whole
  goes : (rest u : List ℕ) (p : Point) (site : ℕ) → IsBytes (u ++ rest) → IsState dfa u p.here → Continues p site rest
  goes [] u p site bytes is =
      let own = front_bytes u [] bytes in
      let ends = last_lists rules dfa late u p.here own is in
      let there : listed_at_end dfa p.here ≡ option_and_then (slice_get dfa.matches) (slice_get dfa.at_end p.here) = ends ∙ sym (at_last u own is) in (
        p,
        refl,
        ap (λ (o : Option (List ℕ)). (p.met || lists leaf o) && not (is_last leaf (mark_at_end graph p.there) p.last)) there ∙
            ap (λ (b : Bool). (p.met || b) && not (is_last leaf (mark_at_end graph p.there) p.last)) (lists_is site (option_and_then (slice_get dfa.matches) (slice_get dfa.at_end p.here))) ∙
            ap (λ (b : Bool). (p.met || met_on site (Some p.here) []) && not b) (is_won graph leaf (mark_at_end graph p.there) site p.last),
      )
    where
      at_last : (u : List ℕ) (own : IsBytes u) → IsState dfa u p.here → option_and_then (slice_get dfa.matches) (slice_get dfa.at_end p.here) ≡ Some (late.at_end u own).leaves
      at_last u own is =
          ap (λ (o : Option ℕ). option_and_then (slice_get dfa.matches) (option_and_then (slice_get dfa.at_end) o)) (sym is.after) ∙ (late.at_end u own).listed
  goes (b ∷ rest) u p site bytes is =
      let moved = moved_bytes u b rest bytes in
      let own = front_bytes (u ++ b ∷ []) rest moved in
      let n = next_state rules dfa late u b p.here own is in
      let ih = goes rest (u ++ b ∷ []) (loss_at dfa graph leaf p b n.state) (site + 1) moved n.is in
      let front : lists leaf (slice_get dfa.matches n.state) ≡ list_any is_leaf (matches_at dfa (priority_of rules) site (dfa_next dfa (Some p.here) b)) =
      lists_is site (slice_get dfa.matches n.state) ∙ ap (λ (o : Option ℕ). list_any is_leaf (matches_at dfa (priority_of rules) site o)) (sym n.next) in
      let tail : met_on (site + 1) (Some n.state) rest ≡ met_on (site + 1) (dfa_next dfa (Some p.here) b) rest = ap (λ (o : Option ℕ). met_on (site + 1) o rest) (sym n.next) in
      let whole : ((p.met || lists leaf (slice_get dfa.matches n.state)) || met_on (site + 1) (Some n.state) rest) ≡ (p.met || met_on site (Some p.here) (b ∷ rest)) =
      or_assoc p.met (lists leaf (slice_get dfa.matches n.state)) (met_on (site + 1) (Some n.state) rest) ∙
      ap (λ (c : Bool). p.met || (c || met_on (site + 1) (Some n.state) rest)) front ∙
      ap (λ (c : Bool). p.met || (list_any is_leaf (matches_at dfa (priority_of rules) site (dfa_next dfa (Some p.here) b)) || c)) tail ∙
      ap (λ (c : Bool). p.met || c) (sym (any_append is_leaf (matches_at dfa (priority_of rules) site (dfa_next dfa (Some p.here) b)) (listed dfa (priority_of rules) (site + 1) (dfa_next dfa (Some p.here) b) rest))) in (
        ih.0,
        ap (λ (o : Option ℕ). option_and_then (λ q. after next q rest) (option_map (loss_at dfa graph leaf p b) o)) n.step ∙ ih.1,
        ih.2 ∙ ap (λ (c : Bool). c && not (won graph leaf (last_from graph (step_to graph p.there b) (site + 1) rest) (is_last leaf (mark_by graph p.there b) p.last))) whole ∙
            ap (λ (c : Bool). (p.met || met_on site (Some p.here) (b ∷ rest)) && not c) (or_won graph leaf (last_from graph (step_to graph p.there b) (site + 1) rest) (mark_by graph p.there b) site p.last),
      )

  -- ---- The answers

  module _ (within : dfa.start < length dfa.matches) (leaves : ℕ) (finished : IsFinished graph leaves) (utf8 : Bool) (finds : FindsTheLongest rules utf8 graph) where
    abbrev start : Point
    start = point_from dfa.start

    all : (bytes : List ℕ) → IsBytes bytes → AreMatches rules bytes 0 (listed dfa (priority_of rules) 0 (Some dfa.start) bytes)
    all bytes are = matches_are rules dfa late starts 0 bytes (omega arith) are

    run : (bytes : List ℕ) → IsBytes bytes → Continues start 0 bytes
    run bytes are = goes bytes [] start 0 are (record { after = refl; within = within })

    is_number : (m n : ℕ) → (m == n) ≡ true → m ≡ n
    is_number m n e = grind (arith, nat_tests)

    no_number : (m n : ℕ) → (m == n) ≡ false → m ≢ n
    no_number m n e same = let t : (m == n) ≡ true = eq-eqb m n same in let clash : true ≡ false = sym t ∙ e in cc

    leads_loss : (bytes : List ℕ) → Leads next goal utf8 start bytes → IsLoss rules utf8 leaf bytes
    leads_loss bytes leads = go (last_from graph 0 0 bytes) refl (not_is _ parts.1)
      where
        r : Continues start 0 bytes
        r = run bytes leads.input.0

        end : r.0 ≡ leads.end
        end = same_Some _ _ (sym r.1 ∙ leads.way)

        parts : (met_on 0 (Some dfa.start) bytes ≡ true) × (not (won graph leaf (last_from graph 0 0 bytes) false) ≡ true)
        parts = and_parts _ _ (sym r.2 ∙ ap goal end ∙ leads.goal)

        met : (m : Match) × Contains (listed dfa (priority_of rules) 0 (Some dfa.start) bytes) m × (is_leaf m ≡ true)
        met = in_any is_leaf _ parts.0

        matches : RuleMatches rules leaf bytes 0 met.0.end
        matches = subst (λ (k : ℕ). RuleMatches rules k bytes 0 met.0.end) (is_number met.0.leaf leaf met.2) (((all bytes leads.input.0).exactly met.0).0 met.1).matches

        positive : 0 < met.0.end
        positive = sure met.0.end matches
          where
            sure : (n : ℕ) → RuleMatches rules leaf bytes 0 n → 0 < n
            sure zero m = absurd (empty_passes rules leaf bytes starts.1 m)
            sure (suc n) m = omega arith

        go : (o : Option (ℕ × ℕ)) → last_from graph 0 0 bytes ≡ o → won graph leaf o false ≡ false → IsLoss rules utf8 leaf bytes
        go None e w =
            let high = inside rules starts leaf bytes 0 met.0.end matches in
            let f = fails graph leaves finished utf8 bytes 0 e (let p = positive in omega (arith, high, p)) in
            let found = (finds bytes 0 (failed f.0) leads.input).0 f.1 in
            absurd (found.1 leaf met.0.end positive matches)
        go (Some x) e w = record {
          input = leads.input;
          end = met.0.end;
          matches = matches;
          winner = x.0;
          to = 0 + x.1;
          found = (finds bytes 0 (matched x.0 (0 + x.1)) leads.input).0 (last_found graph leaves finished utf8 bytes 0 x.0 x.1 e);
          other = no_number x.0 leaf w;
        }

    loss_leads : (bytes : List ℕ) → IsLoss rules utf8 leaf bytes → Leads next goal utf8 start bytes
    loss_leads bytes loss =
        let r = run bytes loss.input.0 in
        let m : Match = record { leaf = leaf; end = loss.end; priority = priority_of rules leaf } in
        let c = ((all bytes loss.input.0).exactly m).1 (record { matches = loss.matches; priority = refl }) in
        let met = any_in is_leaf _ m c (eq-eqb leaf leaf refl) in
        let last = found_last graph leaves finished utf8 bytes 0 loss.winner loss.to ((finds bytes 0 (matched loss.winner loss.to) loss.input).1 loss.found) in
        let lost : won graph leaf (last_from graph 0 0 bytes) false ≡ false = ap (λ (o : Option (ℕ × ℕ)). won graph leaf o false) last.2 ∙ ne_eqb loss.winner leaf loss.other in
        record { input = loss.input; end = r.0; way = r.1; goal = r.2 ∙ both_true _ _ met (ap not lost) }

    pub never_loses : NoneLeads next goal utf8 start → NeverLoses rules utf8 leaf
    never_loses none bytes loss = none bytes (loss_leads bytes loss)

    pub shortest_loss : (bytes : List ℕ) → IsShortest next goal utf8 start bytes → IsShortestLoss rules utf8 leaf bytes
    shortest_loss bytes shortest = record { loss = leads_loss bytes shortest.leads; least = λ other loss. shortest.least other (loss_leads other loss) }

-- the answer of the search as that of the call
pub loss_is : {V : Type 0} (graph : GraphValue) (dfa : Automaton) (states : List GraphState) (leaf : ℕ) (utf8 : Bool) (start : Point) (items : V → List ℕ) (o : Option V) →
    dfa ≡ graph.automaton → states ≡ graph.states → utf8 ≡ graph.utf8 → start ≡ point_from dfa.start → dfa.start < length dfa.matches →
    IsGraphOf graph.leaves graph.utf8 graph → graph.faults ≡ [] → IsFinished graph.states (length graph.leaves) →
    MatchOption o (NoneLeads (loss_next dfa states leaf) (loss_goal dfa states leaf) utf8 start) (λ v. IsShortest (loss_next dfa states leaf) (loss_goal dfa states leaf) utf8 start (items v)) →
    MatchOption o (NeverLoses (rules_of graph.leaves) graph.utf8 leaf) (λ v. IsShortestLoss (rules_of graph.leaves) graph.utf8 leaf (items v))
loss_is graph dfa states leaf utf8 start items o d e f g within of_leaves faultless finished h =
    let starts = (no_faults (rules_of graph.leaves) (subst (AreFaults (rules_of graph.leaves)) faultless of_leaves.faults_are)).0 in
    let late : ReadsOneByteLate (rules_of graph.leaves) dfa = subst (ReadsOneByteLate (rules_of graph.leaves)) (sym d) (of_leaves.late starts) in
    answer_on _ _ _ _
    (never_loses (rules_of graph.leaves) dfa late starts graph.states leaf within (length graph.leaves) finished graph.utf8 (of_leaves.finds faultless))
    (λ v. shortest_loss (rules_of graph.leaves) dfa late starts graph.states leaf within (length graph.leaves) finished graph.utf8 (of_leaves.finds faultless) (items v))
    o
    (subst (λ (p : Point). MatchOption o (NoneLeads (loss_next dfa graph.states leaf) (loss_goal dfa graph.states leaf) graph.utf8 p) (λ v. IsShortest (loss_next dfa graph.states leaf) (loss_goal dfa graph.states leaf) graph.utf8 p (items v))) g
    (subst (λ (m : Bool). MatchOption o (NoneLeads (loss_next dfa graph.states leaf) (loss_goal dfa graph.states leaf) m start) (λ v. IsShortest (loss_next dfa graph.states leaf) (loss_goal dfa graph.states leaf) m start (items v))) f
    (subst (λ (s : List GraphState). MatchOption o (NoneLeads (loss_next dfa s leaf) (loss_goal dfa s leaf) utf8 start) (λ v. IsShortest (loss_next dfa s leaf) (loss_goal dfa s leaf) utf8 start (items v))) e h)))
