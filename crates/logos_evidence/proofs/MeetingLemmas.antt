-- A machine that follows an automaton finds where leaves meet.
use Rattle.std.proofs.Common.{◌≡◌, ℕ, ◌<◌, ◌≤◌, ◌⊎◌, ◌↔◌, Bool, true, false, ◌||◌, List, [], ◌∷◌, ◌++◌, Contains, MatchOption, Option, Some, length, slice_get, slice_index, option_map, option_and_then, bytes_eq, append_assoc, append-nil, length-append, refl, sym, ap, ◌∙◌, subst, inl, inr, arith}
use Rattle.std.specs.List.Sorted.{IsStrictlyIncreasing}
use Rattle.std.proofs.lemmas.Bool.{cases_lt}
use Rattle.std.proofs.lemmas.Option.{same_Some}
use lib.Pointwise.{bytes_decides}
use Rattle.logos_hir.specs.Text.{IsBytes}
use Rattle.logos_automaton.specs.Ambiguity.{IsHighest}
use Rattle.logos_automaton.specs.Automaton.{Automaton, dfa_next, ReadsOneByteLate}
use Rattle.logos_automaton.specs.Faults.{AllStart}
use Rattle.logos_automaton.specs.Munch.{Rule, RuleMatches}
use Rattle.logos_automaton.specs.inside.TopSets.{top_of}
use Rattle.logos_graph.specs.GraphOf.{IsGraphOf}
use Rattle.logos_graph.specs.View.{GraphValue, rules_of}
use Rattle.logos_automaton.proofs.ambiguity.SameMembers.{increasing_same}
use Rattle.logos_automaton.proofs.ambiguity.TopLemmas.{top_highest, top_rises}
use Rattle.logos_evidence.specs.search.Machines.{after, Leads}
use Rattle.logos_evidence.specs.search.Shortest.{NoneLeads, IsShortest}
use Rattle.logos_evidence.specs.declared.search.point.Point.{Point}
use Rattle.logos_evidence.specs.Meetings.{IsMeeting, IsShortestMeeting, NeverMeet}
use Rattle.logos_evidence.specs.inside.Machines.{tops_are, meeting_at, meeting_on, meeting_next, meeting_goal}
use Rattle.logos_evidence.specs.inside.Steps.{step_by, listed_at_end}
use Rattle.logos_evidence.proofs.ExampleLemmas.{answer_on}
use Rattle.logos_evidence.proofs.WindowLemmas.{front_bytes, one_longer, moved_bytes, inside, window, IsState, IsNextState, next_state, last_lists}

or_cases : (a b : Bool) → (a || b) ≡ true → (a ≡ true) ⊎ (b ≡ true)
or_cases true b e = inl refl
or_cases false b e = inr e

or_second : (a b : Bool) → b ≡ true → (a || b) ≡ true
or_second true b e = refl
or_second false b e = e

or_first : (a b : Bool) → a ≡ true → (a || b) ≡ true
or_first true b e = refl
or_first false b e = cc

module _ (rules : List Rule) (dfa : Automaton) (late : ReadsOneByteLate rules dfa) (starts : AllStart rules) (set : List ℕ) where
  abbrev next : Point → ℕ → Option Point
  next = meeting_next dfa rules set

  abbrev goal : Point → Bool
  goal = meeting_goal dfa rules set

  -- whether the set is met from a state on
  abbrev met_from : Option ℕ → List ℕ → Bool
  met_from o [] = tops_are rules set (option_and_then (listed_at_end dfa) o)
  met_from o (b ∷ rest) = tops_are rules set (option_and_then (slice_get dfa.matches) (dfa_next dfa o b)) || met_from (dfa_next dfa o b) rest

  -- after it was met
  stays : (rest : List ℕ) → after next (meeting_at 0 true) rest ≡ Some (meeting_at 0 true)
  stays [] = refl
  stays (b ∷ rest) = stays rest

  -- a result for the rest completes to a result for the whole
  abbrev Continues : ℕ → List ℕ → Type 0
  Continues s rest = (q : Point) × (after next (meeting_at s false) rest ≡ Some q) × (goal q ≡ met_from (Some s) rest)

  unfold_met : (s b t : ℕ) (rest : List ℕ) → dfa_next dfa (Some s) b ≡ Some t → met_from (Some s) (b ∷ rest) ≡ (tops_are rules set (slice_get dfa.matches t) || met_from (Some t) rest)
  unfold_met s b t rest e = ap (λ (o : Option ℕ). tops_are rules set (option_and_then (slice_get dfa.matches) o) || met_from o rest) e

  one_more : (s b t : ℕ) (rest : List ℕ) → step_by dfa s b ≡ Some t → dfa_next dfa (Some s) b ≡ Some t → (met : Bool) → tops_are rules set (slice_get dfa.matches t) ≡ met →
      Continues t rest → Continues s (b ∷ rest)
  one_more s b t rest step to true met ih = (
    meeting_at 0 true,
    ap (λ (o : Option ℕ). option_and_then (λ q. after next q rest) (option_map (meeting_on dfa rules set) o)) step ∙ ap (λ (m : Bool). after next (meeting_at t m) rest) met ∙ stays rest,
    sym (unfold_met s b t rest to ∙ ap (λ (m : Bool). m || met_from (Some t) rest) met),
  )
  one_more s b t rest step to false met ih = (
    ih.0,
    ap (λ (o : Option ℕ). option_and_then (λ q. after next q rest) (option_map (meeting_on dfa rules set) o)) step ∙ ap (λ (m : Bool). after next (meeting_at t m) rest) met ∙ ih.1,
    ih.2 ∙ sym (unfold_met s b t rest to ∙ ap (λ (m : Bool). m || met_from (Some t) rest) met),
  )

  -- a result for the rest completes to a result for the whole
  goes : (rest u : List ℕ) (s : ℕ) → IsBytes (u ++ rest) → IsState dfa u s → Continues s rest
  goes [] u s bytes is = (meeting_at s false, refl, refl)
  goes (b ∷ rest) u s bytes is =
      let moved = moved_bytes u b rest bytes in
      let n = next_state rules dfa late u b s (front_bytes (u ++ b ∷ []) rest moved) is in
      one_more s b n.state rest n.step n.next (tops_are rules set (slice_get dfa.matches n.state)) refl (goes rest (u ++ b ∷ []) n.state moved n.is)

  -- ---- Where the set is met, its leaves are the highest

  abbrev AreHighest : List ℕ → ℕ → Type 0
  AreHighest bytes to = (leaf : ℕ) → Contains set leaf ↔ IsHighest rules bytes 0 to leaf

  tops : (bytes : List ℕ) (to : ℕ) (leaves : List ℕ) → IsStrictlyIncreasing leaves → ((leaf : ℕ) → Contains leaves leaf ↔ RuleMatches rules leaf bytes 0 to) →
      bytes_eq (top_of rules leaves) set ≡ true → AreHighest bytes to
  tops bytes to leaves rising lists e = subst (λ (xs : List ℕ). (leaf : ℕ) → Contains xs leaf ↔ IsHighest rules bytes 0 to leaf) ((bytes_decides (top_of rules leaves) set).0 e) (top_highest rules bytes 0 to leaves rising lists)

  are_tops : (bytes : List ℕ) (to : ℕ) (leaves : List ℕ) → IsStrictlyIncreasing leaves → ((leaf : ℕ) → Contains leaves leaf ↔ RuleMatches rules leaf bytes 0 to) →
      IsStrictlyIncreasing set → AreHighest bytes to → bytes_eq (top_of rules leaves) set ≡ true
  are_tops bytes to leaves rising lists ascending h =
      let top = top_highest rules bytes 0 to leaves rising lists in
      (bytes_decides (top_of rules leaves) set).1 (increasing_same (top_of rules leaves) set (top_rises rules bytes 0 to leaves rising lists) ascending
      (λ n c. (h n).1 ((top n).0 c)) (λ n c. (top n).1 ((h n).0 c)))

  -- the leaves that are listed after one more byte, over the whole input
  listed_there : (u : List ℕ) (b : ℕ) (rest : List ℕ) (bytes : IsBytes (u ++ b ∷ [])) (leaf : ℕ) → Contains (late.by_byte u b bytes).leaves leaf ↔ RuleMatches rules leaf (u ++ b ∷ rest) 0 (length u)
  listed_there u b rest bytes leaf =
      let w = window rules starts leaf u rest b in
      let e = (late.by_byte u b bytes).exactly leaf in
      (λ c. w.0 (e.0 c), λ m. e.1 (w.1 m))

  listed_last : (u : List ℕ) (bytes : IsBytes u) (leaf : ℕ) → Contains (late.at_end u bytes).leaves leaf ↔ RuleMatches rules leaf (u ++ []) 0 (length u)
  listed_last u bytes leaf =
      let text : u ++ [] ≡ u = append-nil u in
      let e = (late.at_end u bytes).exactly leaf in
      (λ c. subst (λ (xs : List ℕ). RuleMatches rules leaf xs 0 (length u)) (sym text) (e.0 c), λ m. e.1 (subst (λ (xs : List ℕ). RuleMatches rules leaf xs 0 (length u)) text m))

  at_end : (u : List ℕ) (s : ℕ) (bytes : IsBytes u) → IsState dfa u s → met_from (Some s) [] ≡ bytes_eq (top_of rules (late.at_end u bytes).leaves) set
  at_end u s bytes is = ap (tops_are rules set) (last_lists rules dfa late u s bytes is)

  pub record Meets (u rest : List ℕ) : Type 0 where
    pub to : ℕ
    pub low : length u ≤ to
    pub highest : AreHighest (u ++ rest) to

  meets : (rest u : List ℕ) (s : ℕ) → IsBytes (u ++ rest) → IsState dfa u s → met_from (Some s) rest ≡ true → Meets u rest
  meets [] u s bytes is e =
      let own = front_bytes u [] bytes in
      let l = late.at_end u own in
      record { to = length u; low = omega arith; highest = tops (u ++ []) (length u) l.leaves l.ascending (listed_last u own) (sym (at_end u s own is) ∙ e) }
  meets (b ∷ rest) u s bytes is e =
      let moved = moved_bytes u b rest bytes in
      let own = front_bytes (u ++ b ∷ []) rest moved in
      let n = next_state rules dfa late u b s own is in
      go own n (meets rest (u ++ b ∷ []) n.state moved n.is) (or_cases _ _ (sym (unfold_met s b n.state rest n.next) ∙ e))
    where
      go : (own : IsBytes (u ++ b ∷ [])) (n : IsNextState rules dfa late u b s own) → (met_from (Some n.state) rest ≡ true → Meets (u ++ b ∷ []) rest) →
          (tops_are rules set (slice_get dfa.matches n.state) ≡ true) ⊎ (met_from (Some n.state) rest ≡ true) → Meets u (b ∷ rest)
      go own n ih (inl h) =
          let l = late.by_byte u b own in
          record {
            to = length u;
            low = omega arith;
            highest = tops (u ++ b ∷ rest) (length u) l.leaves l.ascending (listed_there u b rest own) (sym (ap (tops_are rules set) n.lists) ∙ h);
          }
      go own n ih (inr h) =
          let m = ih h in
          let size = one_longer u b in
          let low = m.low in
          record { to = m.to; low = omega (arith, size, low); highest = subst (λ (xs : List ℕ). AreHighest xs m.to) (append_assoc u (b ∷ []) rest) m.highest }

  met : (leaf : ℕ) → Contains set leaf → IsStrictlyIncreasing set → (rest u : List ℕ) (s to : ℕ) → IsBytes (u ++ rest) → IsState dfa u s → length u ≤ to → AreHighest (u ++ rest) to →
      met_from (Some s) rest ≡ true
  met leaf one ascending [] u s to bytes is low h =
      let own = front_bytes u [] bytes in
      let l = late.at_end u own in
      let high = inside rules starts leaf (u ++ []) 0 to ((h leaf).0 one).matches in
      let size = length-append u [] in
      let same : to ≡ length u = omega (arith, low, high, size) in
      at_end u s own is ∙ are_tops (u ++ []) (length u) l.leaves l.ascending (listed_last u own) ascending (subst (AreHighest (u ++ [])) same h)
  met leaf one ascending (b ∷ rest) u s to bytes is low h =
      let moved = moved_bytes u b rest bytes in
      let own = front_bytes (u ++ b ∷ []) rest moved in
      let n = next_state rules dfa late u b s own is in
      unfold_met s b n.state rest n.next ∙ go own n (λ l. met leaf one ascending rest (u ++ b ∷ []) n.state to moved n.is l (subst (λ (xs : List ℕ). AreHighest xs to) (sym (append_assoc u (b ∷ []) rest)) h)) (cases_lt (length u) to)
    where
      go : (own : IsBytes (u ++ b ∷ [])) (n : IsNextState rules dfa late u b s own) → (length (u ++ b ∷ []) ≤ to → met_from (Some n.state) rest ≡ true) →
          (length u < to) ⊎ (to ≤ length u) → (tops_are rules set (slice_get dfa.matches n.state) || met_from (Some n.state) rest) ≡ true
      go own n ih (inl l) = let size = one_longer u b in or_second _ _ (ih (omega (arith, l, size)))
      go own n ih (inr l) =
          let same : to ≡ length u = omega (arith, low, l) in
          let lists = late.by_byte u b own in
          or_first _ _ (ap (tops_are rules set) n.lists ∙ are_tops (u ++ b ∷ rest) (length u) lists.leaves lists.ascending (listed_there u b rest own) ascending (subst (AreHighest (u ++ b ∷ rest)) same h))

  -- ---- The answers

  module _ (within : dfa.start < length dfa.matches) (utf8 : Bool) where
    first : IsState dfa [] dfa.start
    first = record { after = refl; within = within }

    abbrev start : Point
    start = meeting_at dfa.start false

    leads_meeting : (bytes : List ℕ) → Leads next goal utf8 start bytes → IsMeeting rules utf8 set bytes
    leads_meeting bytes leads =
        let run = goes bytes [] dfa.start leads.input.0 first in
        let end : run.0 ≡ leads.end = same_Some _ _ (sym run.1 ∙ leads.way) in
        let m = meets bytes [] dfa.start leads.input.0 first (sym run.2 ∙ ap goal end ∙ leads.goal) in
        record { input = leads.input; to = m.to; exactly = m.highest }

    meeting_leads : (leaf : ℕ) → Contains set leaf → IsStrictlyIncreasing set → (bytes : List ℕ) → IsMeeting rules utf8 set bytes → Leads next goal utf8 start bytes
    meeting_leads leaf one ascending bytes m =
        let run = goes bytes [] dfa.start m.input.0 first in
        record { input = m.input; end = run.0; way = run.1; goal = run.2 ∙ met leaf one ascending bytes [] dfa.start m.to m.input.0 first (omega arith) m.exactly }

    pub never_meet : (leaf : ℕ) → Contains set leaf → IsStrictlyIncreasing set → NoneLeads next goal utf8 start → NeverMeet rules utf8 set
    never_meet leaf one ascending none bytes m = none bytes (meeting_leads leaf one ascending bytes m)

    pub shortest_meeting : (leaf : ℕ) → Contains set leaf → IsStrictlyIncreasing set → (bytes : List ℕ) → IsShortest next goal utf8 start bytes → IsShortestMeeting rules utf8 set bytes
    shortest_meeting leaf one ascending bytes shortest = record {
      meeting = leads_meeting bytes shortest.leads;
      least = λ other m. shortest.least other (meeting_leads leaf one ascending other m);
    }

first_of : (set : List ℕ) → 0 < length set → Contains set (slice_index set 0)
first_of [] l = absurd (omega arith)
first_of (x ∷ set) l = (0, omega arith, refl)

-- the answer of the search as that of the call
pub meeting_is : {V : Type 0} (graph : GraphValue) (dfa : Automaton) (set : List ℕ) (utf8 : Bool) (start : Point) (items : V → List ℕ) (o : Option V) →
    dfa ≡ graph.automaton → utf8 ≡ graph.utf8 → start ≡ meeting_at dfa.start false → dfa.start < length dfa.matches → 0 < length set → IsStrictlyIncreasing set →
    IsGraphOf graph.leaves graph.utf8 graph → AllStart (rules_of graph.leaves) →
    MatchOption o (NoneLeads (meeting_next graph.automaton (rules_of graph.leaves) set) (meeting_goal graph.automaton (rules_of graph.leaves) set) utf8 start)
    (λ v. IsShortest (meeting_next graph.automaton (rules_of graph.leaves) set) (meeting_goal graph.automaton (rules_of graph.leaves) set) utf8 start (items v)) →
    MatchOption o (NeverMeet (rules_of graph.leaves) graph.utf8 set) (λ v. IsShortestMeeting (rules_of graph.leaves) graph.utf8 set (items v))
meeting_is graph dfa set utf8 start items o d f g within some ascending of_leaves starts h =
    let rules = rules_of graph.leaves in
    let late : ReadsOneByteLate rules dfa = subst (ReadsOneByteLate rules) (sym d) (of_leaves.late starts) in
    answer_on _ _ _ _
    (never_meet rules dfa late starts set within graph.utf8 (slice_index set 0) (first_of set some) ascending)
    (λ v. shortest_meeting rules dfa late starts set within graph.utf8 (slice_index set 0) (first_of set some) ascending (items v))
    o
    (subst (λ (p : Point). MatchOption o (NoneLeads (meeting_next dfa rules set) (meeting_goal dfa rules set) graph.utf8 p) (λ v. IsShortest (meeting_next dfa rules set) (meeting_goal dfa rules set) graph.utf8 p (items v))) g
    (subst (λ (m : Bool). MatchOption o (NoneLeads (meeting_next dfa rules set) (meeting_goal dfa rules set) m start) (λ v. IsShortest (meeting_next dfa rules set) (meeting_goal dfa rules set) m start (items v))) f
    (subst (λ (a : Automaton). MatchOption o (NoneLeads (meeting_next a rules set) (meeting_goal a rules set) utf8 start) (λ v. IsShortest (meeting_next a rules set) (meeting_goal a rules set) utf8 start (items v))) (sym d) h)))
