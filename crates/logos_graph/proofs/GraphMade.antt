-- A graph that is made from leaves fulfills its contract with them.
use Rattle.std.proofs.Common.{◌≡◌, ◌≢◌, ℕ, ◌==◌, Bool, true, List, [], ◌∷◌, length, map, refl, sym, ◌∙◌, subst, arith}
use Rattle.std.proofs.lemmas.Bool.{eqb-true}
use Rattle.logos_automaton.specs.Faults.{Fault, AreFaults}
use Rattle.logos_graph.specs.GraphOf.{IsGraphOf, AreFindings}
use Rattle.logos_automaton.specs.Automaton.{Automaton, ReadsOneByteLate}
use Rattle.logos_graph.specs.View.{GraphValue, rules_of}
use Rattle.logos_pattern.specs.declared.leaf.Leaf.{Leaf}
use Rattle.logos_graph.proofs.Automaton.{no_faults}

-- a list of no length has no items
pub none_listed : {X Y : Type 0} (f : X → Y) (xs : List X) (n : ℕ) (empty : Bool) → n ≡ length xs → empty ≡ (n == 0) → empty ≡ true → map f xs ≡ []
none_listed f [] n empty e is t = refl
none_listed f (x ∷ xs) n empty e is t = let z : n ≡ 0 = eqb-true n 0 (sym is ∙ t) in absurd (omega (arith, e, z))

-- the faults of the same leaves
module _ (leaves xs : List Leaf) (dfa : Automaton) (faults : List Fault) (e : xs ≡ leaves) (found : AreFindings (rules_of xs) dfa faults) where
  findings_at : AreFindings (rules_of leaves) dfa faults
  findings_at = subst (λ zs. AreFindings (rules_of zs) dfa faults) e found

  pub none_at : faults ≡ [] → AreFaults (rules_of leaves) []
  none_at none = subst (AreFaults (rules_of leaves)) none findings_at.faults_are

  pub late_without : faults ≡ [] → ReadsOneByteLate (rules_of leaves) dfa
  late_without none = let start = no_faults (rules_of leaves) (none_at none) in findings_at.late start.0

  pub refused_graph : (utf8 : Bool) (g : GraphValue) → g ≡ record { leaves = leaves; utf8 = utf8; faults = faults; states = []; automaton = dfa } → faults ≢ [] → IsGraphOf leaves utf8 g
  refused_graph utf8 g is some = subst (IsGraphOf leaves utf8) (sym is) (record {
    leaves_are = refl;
    mode = refl;
    faults_are = findings_at.faults_are;
    late = findings_at.late;
    finds = λ none. absurd (some none);
    reduced = λ none. absurd (some none);
    least = λ none. absurd (some none);
  })
