-- One more offset of an input, and the end.
use Rattle.std.proofs.Common.{◌≡◌, ℕ, zero, suc, ◌+◌, ◌<◌, ◌≤◌, List, [], ◌∷◌, ◌++◌, Option, Some, length, map, take, drop, get_or, slice_get, append_assoc, drop-cons, refl, sym, ap, ◌∙◌, subst, arith}
use Rattle.std.proofs.lemmas.List.{map-append}
use Rattle.std.proofs.Math.Seq.{take-suc}
use Rattle.logos_hir.specs.Text.{IsBytes}
use Rattle.logos_automaton.specs.Automaton.{Automaton, dfa_next, ReadsOneByteLate}
use Rattle.logos_automaton.specs.Faults.{AllStart}
use Rattle.logos_automaton.specs.Munch.{priority_of}
use Rattle.logos_graph.specs.GraphOf.{IsGraphOf}
use Rattle.logos_graph.specs.View.{GraphValue, rules_of}
use Rattle.logos_evidence.specs.Matching.{AreMatches}
use Rattle.logos_evidence.specs.inside.Listed.{match_to, matches_in, matches_at, listed}
use Rattle.logos_evidence.specs.declared.matches.Match.{Match}
use Rattle.logos_evidence.proofs.MatchingLemmas.{matches_are}

-- one more leaf
pub one_more_match : (priority : ℕ → ℕ) (end : ℕ) (front old new : List Match) (leaves : List ℕ) (i leaf p : ℕ) → i < length leaves → leaf ≡ get_or leaves i 0 → p ≡ priority leaf →
    new ≡ old ++ record { leaf = leaf; end = end; priority = p } ∷ [] → old ≡ front ++ map (match_to priority end) (take i leaves) →
    new ≡ front ++ map (match_to priority end) (take (i + 1) leaves)
one_more_match priority end front old new leaves i leaf p l e f g h =
    let one : record { leaf = leaf; end = end; priority = p } ≡ match_to priority end (get_or leaves i 0) =
    (λ j. record { leaf = leaf; end = end; priority = f j }) ∙ ap (match_to priority end) e in
    let next : suc i ≡ i + 1 = omega arith in
    let more : map (match_to priority end) (take i leaves) ++ match_to priority end (get_or leaves i 0) ∷ [] ≡ map (match_to priority end) (take (i + 1) leaves) =
    sym (map-append (match_to priority end) (take i leaves) (get_or leaves i 0 ∷ [])) ∙ ap (map (match_to priority end)) (sym (take-suc leaves i 0 l)) ∙ ap (λ (n : ℕ). map (match_to priority end) (take n leaves)) next in
    g ∙ ap (λ (m : Match). old ++ m ∷ []) one ∙ ap (λ (xs : List Match). xs ++ match_to priority end (get_or leaves i 0) ∷ []) h ∙
    append_assoc front (map (match_to priority end) (take i leaves)) (match_to priority end (get_or leaves i 0) ∷ []) ∙ ap (λ (xs : List Match). front ++ xs) more

module _ (dfa : Automaton) (priority : ℕ → ℕ) where
  pub one_more_site : (end s t : ℕ) (input leaves : List ℕ) (old new whole : List Match) → end < length input → dfa_next dfa (Some s) (get_or input end 0) ≡ Some t →
      slice_get dfa.matches t ≡ Some leaves → new ≡ old ++ map (match_to priority end) leaves → old ++ listed dfa priority end (Some s) (drop end input) ≡ whole →
      new ++ listed dfa priority (end + 1) (Some t) (drop (end + 1) input) ≡ whole
  one_more_site end s t input leaves old new whole l next lists made h =
      let rest = drop (end + 1) input in
      let b = get_or input end 0 in
      let one : suc end ≡ end + 1 = omega arith in
      let split : drop end input ≡ b ∷ rest = drop-cons input end 0 l ∙ ap (λ (n : ℕ). b ∷ drop n input) one in
      let step : listed dfa priority end (Some s) (b ∷ rest) ≡ map (match_to priority end) leaves ++ listed dfa priority (end + 1) (Some t) rest =
      ap (λ (o : Option ℕ). matches_at dfa priority end o ++ listed dfa priority (end + 1) o rest) next ∙
      ap (λ (o : Option (List ℕ)). matches_in dfa priority end o ++ listed dfa priority (end + 1) (Some t) rest) lists in
      ap (λ (xs : List Match). xs ++ listed dfa priority (end + 1) (Some t) rest) made ∙
      append_assoc old (map (match_to priority end) leaves) (listed dfa priority (end + 1) (Some t) rest) ∙
      ap (λ (xs : List Match). old ++ xs) (sym step) ∙ ap (λ (xs : List ℕ). old ++ listed dfa priority end (Some s) xs) (sym split) ∙ h

  none_left : (input : List ℕ) (end : ℕ) → length input ≤ end → drop end input ≡ []
  none_left [] zero l = refl
  none_left [] (suc end) l = refl
  none_left (x ∷ input) zero l = absurd (omega arith)
  none_left (x ∷ input) (suc end) l = none_left input end (omega arith)

  pub last_site : (end s t : ℕ) (input leaves : List ℕ) (old new whole : List Match) → end ≡ length input → slice_get dfa.at_end s ≡ Some t →
      slice_get dfa.matches t ≡ Some leaves → new ≡ old ++ map (match_to priority (length input)) leaves → old ++ listed dfa priority end (Some s) (drop end input) ≡ whole → new ≡ whole
  last_site end s t input leaves old new whole e next lists made h =
      let last : listed dfa priority end (Some s) [] ≡ map (match_to priority end) leaves =
      ap (λ (o : Option ℕ). matches_at dfa priority end o) next ∙ ap (matches_in dfa priority end) lists in
      made ∙ ap (λ (n : ℕ). old ++ map (match_to priority n) leaves) (sym e) ∙ ap (λ (xs : List Match). old ++ xs) (sym last) ∙
      ap (λ (xs : List ℕ). old ++ listed dfa priority end (Some s) xs) (sym (none_left input end (omega arith))) ∙ h

pub matches_is : (graph : GraphValue) (dfa : Automaton) (input : List ℕ) (from : ℕ) (found : List Match) → dfa ≡ graph.automaton → from ≤ length input →
    found ≡ listed dfa (priority_of (rules_of graph.leaves)) from (Some dfa.start) (drop from input) →
    IsGraphOf graph.leaves graph.utf8 graph → AllStart (rules_of graph.leaves) → IsBytes input → AreMatches (rules_of graph.leaves) input from found
matches_is graph dfa input from found d within e of_leaves starts bytes =
    let late : ReadsOneByteLate (rules_of graph.leaves) dfa = subst (ReadsOneByteLate (rules_of graph.leaves)) (sym d) (of_leaves.late starts) in
    subst (AreMatches (rules_of graph.leaves) input from) (sym e) (matches_are (rules_of graph.leaves) dfa late starts from input within bytes)
