-- Definitions that contracts cite: those of `Imports`, and those that name types of this crate.
pub use Rattle.logos_causes.specs.Imports.{AddsEach, AreMarks, HasSets, IsMarked, IsRefusal, IsSet, LeavesHaveSets, Spells, YieldsEnum, delimiter_limit, depth_of, enum_value, fault_of, numbers, rule_of, run_span, set_size, set_sizes, size_of, sizes_of, some_leads, tokens_of}
pub use Rattle.logos_causes.specs.Warned.{AreOfLexer, IsHidden, IsOfCallback, IsOfLexer, callback_text}
