-- Definitions that contracts cite: those of `Imports`, and those that name types of this crate.
pub use Rattle.logos_replies.specs.Imports.{AllStart, Gains, IsBytes, IsGraphOf, IsNoMisuse, rules_of, status_of}
pub use Rattle.logos_json.specs.Lines.{Puts}
pub use Rattle.logos_answers.specs.declared.difference.Finding.{Finding}
pub use Rattle.logos_replies.specs.Answers.{PrintsAgreement, PrintsInputRecords, PrintsInputs, PrintsMatchRecords, PrintsMatches, location_line}
pub use Rattle.logos_replies.specs.Verdicts.{IsVerdictRecord, IsVerdictText, PrintsVerdict, PutsVerdict, ShowsVerdict, ShowsVerdictText, agreement_of, difference_object}
