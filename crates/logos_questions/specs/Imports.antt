-- Definitions that contracts cite: those of lower crates, and those of this crate that name none of
-- its types.
pub use Rattle.logos_answers.specs.Locations.{number_named, location_named}
pub use Rattle.logos_host.specs.Failures.{status_of}
pub use Rattle.logos_options.specs.ArgumentSteps.{option_value}
pub use Rattle.logos_options.specs.Arguments.{arguments_value}
pub use Rattle.logos_questions.specs.Orders.{requested, inputs_given, kind_value, matches_given, order_given, question_given, question_named, question_value, request_given, request_value}
