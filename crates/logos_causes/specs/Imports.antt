-- Definitions that contracts cite: those of lower crates, and those of this crate that name none of
-- its types.
pub use Rattle.logos_automaton.specs.Errors.{fault_of, numbers}
pub use Rattle.logos_automaton.specs.Faults.{some_leads}
pub use Rattle.logos_enum.specs.EnumValues.{enum_value}
pub use Rattle.logos_graph.specs.View.{rule_of}
pub use Rattle.logos_parser.specs.Endings.{YieldsEnum}
pub use Rattle.logos_report.specs.Sets.{size_of, sizes_of}
pub use Rattle.logos_token.specs.Limits.{delimiter_limit}
pub use Rattle.logos_token.specs.Refusals.{IsRefusal}
pub use Rattle.logos_token.specs.Spelling.{Spells}
pub use Rattle.logos_token.specs.Tokens.{depth_of, run_span}
pub use Rattle.logos_token.specs.Views.{tokens_of}
pub use Rattle.logos_causes.specs.Sets.{HasSets, LeavesHaveSets, set_size, set_sizes}
pub use Rattle.logos_warnings.specs.Shown.{AddsEach}
pub use Rattle.logos_inspect.specs.Marks.{AreMarks, IsMarked, IsSet}
