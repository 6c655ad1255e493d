-- A list of rules has one list of faults.
use Rattle.std.proofs.Common.{◌≡◌, ℕ, Bool, true, false, List, [], ◌∷◌, map, MatchBool, sym, ◌∙◌, ap}
use Rattle.logos_automaton.specs.Munch.{Rule}
use Rattle.logos_automaton.specs.Faults.{Fault, no_universal_start, empty_match, disambiguation, some_leads, some_passable, ArePassable, AreAmbiguous, AreFaults}
use Rattle.logos_automaton.proofs.ambiguity.SameMembers.{increasing_same, ascending_same}

module _ (rules : List Rule) where
  passable_once : (xs ys : List ℕ) → ArePassable rules xs → ArePassable rules ys → xs ≡ ys
  passable_once xs ys a b = increasing_same xs ys a.ascending b.ascending
      (λ n h. (b.exactly n).1 ((a.exactly n).0 h))
      (λ n h. (a.exactly n).1 ((b.exactly n).0 h))

  ambiguous_once : (xs ys : List (List ℕ)) → AreAmbiguous rules xs → AreAmbiguous rules ys → xs ≡ ys
  ambiguous_once xs ys a b = ascending_same xs ys a.ascending b.ascending
      (λ n h. (b.exactly n).1 ((a.exactly n).0 h))
      (λ n h. (a.exactly n).1 ((b.exactly n).0 h))

  by_tests : (leads passes : Bool) (faults others : List Fault) →
      MatchBool leads (faults ≡ no_universal_start ∷ []) (MatchBool passes ((leaves : List ℕ) × ArePassable rules leaves × (faults ≡ map empty_match leaves)) ((sets : List (List ℕ)) × AreAmbiguous rules sets × (faults ≡ map disambiguation sets))) →
      MatchBool leads (others ≡ no_universal_start ∷ []) (MatchBool passes ((leaves : List ℕ) × ArePassable rules leaves × (others ≡ map empty_match leaves)) ((sets : List (List ℕ)) × AreAmbiguous rules sets × (others ≡ map disambiguation sets))) →
      faults ≡ others
  by_tests true passes faults others a b = a ∙ sym b
  by_tests false true faults others a b = a.2 ∙ ap (map empty_match) (passable_once a.0 b.0 a.1 b.1) ∙ sym b.2
  by_tests false false faults others a b = a.2 ∙ ap (map disambiguation) (ambiguous_once a.0 b.0 a.1 b.1) ∙ sym b.2

  pub faults_once : (faults others : List Fault) → AreFaults rules faults → AreFaults rules others → faults ≡ others
  faults_once faults others a b = by_tests (some_leads rules) (some_passable rules) faults others a b
