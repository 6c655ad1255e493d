-- Definitions that contracts cite: those of `Imports`, and those that name types of this crate.
pub use Rattle.logos_show.specs.Imports.{AllStart, IsBytes, IsGraphOf, IsNoMisuse, IsPartAt, requested, rules_of, status_of}
pub use Rattle.logos_host.specs.Reading.{Reads}
pub use Rattle.logos_page.specs.Pages.{Gains}
pub use Rattle.logos_rust_file.specs.Handed.{Refuses}
pub use Rattle.logos_rust_file.specs.Paths.{EndsWithPath, IsPathOf}
pub use Rattle.logos_token.specs.Faults.{Fault}
pub use Rattle.logos_show.specs.Candidates.{AddsCandidate, AreCandidates, EndsWith, HasName, HasPath, IsOther, IsSelected, Selects}
pub use Rattle.logos_show.specs.Choices.{IsCause, IsChosen, IsChosenIn, IsLexerOf, IsNextChoice, IsRefusal, IsSeveralText, IsUnreadable, RefusesBy, chosen_first, first_deriving, help_text, name_requested, name_text, no_lexer_text, other_text, several_text}
pub use Rattle.logos_show.specs.Runs.{Answers, AnswersAbout, AnswersOrExpects, ComparesFiles, ComparesTo, Expects, IsFulfilled, PrintsInputsAs, PrintsMatchesAs, ShowsInputsOf, ShowsMatchesOf, expected_in, is_json}
pub use Rattle.logos_questions.specs.Orders.{order_value, question_value, request_value}
