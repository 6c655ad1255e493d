-- Definitions that contracts cite: those of `Imports`, and those that name types of this crate.
pub use Rattle.logos_answers.specs.Imports.{AreDistinct, AreNumbers, Grows, IsGraphOf, IsNumberOf}
pub use Rattle.logos_answers.specs.Comparing.{IsCompared, compared_by}
pub use Rattle.logos_answers.specs.Examples.{IsEvidence, IsLostTo, ShowsExample, ShowsExamples, evidence_line, found_text, loss_text, loss_value}
