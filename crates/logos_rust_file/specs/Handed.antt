-- Definitions of the crates below that contracts of the crates above need.
pub use Rattle.logos_parser.specs.Endings.{EndsReading}
pub use Rattle.logos_parser.specs.Refusals.{Refuses}
pub use Rattle.logos_parser.specs.declared.refusal.Refusal.{Refusal}
pub use Rattle.logos_parser.specs.declared.refusal.Refusal.TheVariants.{Errors, Memory}
pub use Rattle.logos_strip.specs.Results.{IsStripped}
