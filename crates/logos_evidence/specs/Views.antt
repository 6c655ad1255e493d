-- Definitions that contracts cite: those of `Imports`, and those that name types of this crate.
pub use Rattle.logos_evidence.specs.Imports.{AllStart, FindTheSame, IsBytes, IsGraphOf, IsShortestDifference, pair_goal, pair_next, rules_of, shown}
pub use Rattle.logos_automaton.specs.Munch.{priority_of}
pub use Rattle.logos_evidence.specs.Matching.{AreMatches, IsAtMost, IsWinner}
pub use Rattle.logos_evidence.specs.inside.Compared.{IsAnswer}
pub use Rattle.logos_evidence.specs.inside.Listed.{match_to}
