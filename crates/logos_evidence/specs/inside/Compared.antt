-- The result of a comparison.
use Rattle.std.specs.Prelude.{Bool, ℕ, List}
use Rattle.logos_automaton.specs.Munch.{Rule}
use Rattle.logos_evidence.specs.Comparing.{FindTheSame, IsShortestDifference}
use Rattle.logos_evidence.specs.declared.comparison.Comparison.{Comparison}
use Rattle.logos_evidence.specs.declared.comparison.Comparison.TheVariants.{Same, Differ}

-- The result of a comparison is correct.
abbrev pub IsAnswer : List Rule → List ℕ → List Rule → List ℕ → Bool → Comparison → Type 0
IsAnswer rules names other_rules others utf8 Same = FindTheSame rules names other_rules others utf8
IsAnswer rules names other_rules others utf8 (Differ bytes) = IsShortestDifference rules names other_rules others utf8 bytes.items
