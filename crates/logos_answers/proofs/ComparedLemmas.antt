-- The meaning of a comparison of two graphs.
use Rattle.std.proofs.Common.{◌≡◌, ℕ, List, length, sym, subst}
use Rattle.logos_evidence.specs.declared.comparison.Comparison.{Comparison}
use Rattle.logos_evidence.specs.declared.comparison.Comparison.TheVariants.{Differ, Same}
use Rattle.logos_evidence.specs.inside.Compared.{IsAnswer}
use Rattle.logos_graph.specs.View.{GraphValue, rules_of}
use Rattle.logos_pattern.specs.declared.leaf.Leaf.{Leaf}
use Rattle.logos_answers.specs.declared.comparison.Compared.{Compared}
use Rattle.logos_answers.specs.Comparing.{AreOfOneMode, IsCompared, compared_by}
use Rattle.logos_answers.specs.inside.Numbers.{AreDistinct, AreNumbers, Grows, Table}
use Rattle.logos_answers.proofs.NumberLemmas.{are_numbered, grown_numbers}

-- leaves that are numbered one after another, by a table that grows
pub one_mode : (one other : GraphValue) (leaves others : List Leaf) (first last : Table) (names other_names : List ℕ) → one.utf8 ≡ other.utf8 → leaves ≡ one.leaves → others ≡ other.leaves → AreDistinct last → Grows first last →
    AreNumbers first leaves (length leaves) names → AreNumbers last others (length others) other_names → AreOfOneMode one other names other_names
one_mode one other leaves others first last names other_names mode same same_others distinct grows a b = record {
  mode = mode;
  numbered = are_numbered last distinct one.leaves other.leaves names other_names
      (subst (λ (ls : List Leaf). AreNumbers last ls (length ls) names) same (grown_numbers first last leaves (length leaves) names grows a))
      (subst (λ (ls : List Leaf). AreNumbers last ls (length ls) other_names) same_others b);
}

module _ (one other : GraphValue) (names other_names : List ℕ) (mode : AreOfOneMode one other names other_names) where
  compared_as : (made : Comparison) → IsAnswer (rules_of one.leaves) names (rules_of other.leaves) other_names one.utf8 made → IsCompared one other (compared_by made)
  compared_as Same answer = (names, other_names, mode, answer)
  compared_as (Differ input) answer = (names, other_names, mode, answer)

  -- the meaning of the answer, with other names for the numbers
  pub compared_is : (given other_given : List ℕ) (made : Comparison) (compared : Compared) → given ≡ names → other_given ≡ other_names →
      IsAnswer (rules_of one.leaves) given (rules_of other.leaves) other_given one.utf8 made → compared ≡ compared_by made → IsCompared one other compared
  compared_is given other_given made compared same same_other answer e =
      subst (IsCompared one other) (sym e)
      (compared_as made
      (subst (λ ns. IsAnswer (rules_of one.leaves) names (rules_of other.leaves) ns one.utf8 made) same_other
      (subst (λ ns. IsAnswer (rules_of one.leaves) ns (rules_of other.leaves) other_given one.utf8 made) same answer)))
