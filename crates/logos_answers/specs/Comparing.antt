-- The result of a comparison of two lexers.
use Rattle.std.specs.Prelude.{◌≡◌, ◌≢◌, ℕ, List}
use Rattle.logos_evidence.specs.Comparing.{FindTheSame, IsShortestDifference}
use Rattle.logos_evidence.specs.declared.comparison.Comparison.{Comparison}
use Rattle.logos_evidence.specs.declared.comparison.Comparison.TheVariants as comparisons
use Rattle.logos_graph.specs.View.{GraphValue, rules_of}
use Rattle.logos_answers.specs.declared.comparison.Compared.{Compared}
use Rattle.logos_answers.specs.declared.comparison.Compared.TheVariants.{Differ, OtherMode, Same}
use Rattle.logos_answers.specs.Names.{AreNumbered}

-- The leaves of two graphs of one mode, numbered by their variants.
pub record AreOfOneMode (one other : GraphValue) (names other_names : List ℕ) : Type 0 where
  pub mode : one.utf8 ≡ other.utf8
  pub numbered : AreNumbered one.leaves names other.leaves other_names

-- The two lexers find the same variants and errors from each offset of each input; or this is a
-- shortest input at whose beginning they do not; or they read inputs of different kinds.
abbrev pub IsCompared : GraphValue → GraphValue → Compared → Type 0
IsCompared one other Same =
    (names other_names : List ℕ) × AreOfOneMode one other names other_names × FindTheSame (rules_of one.leaves) names (rules_of other.leaves) other_names one.utf8
IsCompared one other (Differ input) =
    (names other_names : List ℕ) × AreOfOneMode one other names other_names × IsShortestDifference (rules_of one.leaves) names (rules_of other.leaves) other_names one.utf8 input.items
IsCompared one other OtherMode = one.utf8 ≢ other.utf8

-- The result for two lexers that read inputs of the same kind.
abbrev pub compared_by : Comparison → Compared
compared_by comparisons.Same = Same
compared_by (comparisons.Differ input) = Differ input
