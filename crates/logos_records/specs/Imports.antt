-- Definitions that contracts cite: those of lower crates, and those of this crate that name none of
-- its types.
pub use Rattle.logos_answers.specs.Views.{loss_value}
pub use Rattle.logos_automaton.specs.Faults.{AllStart}
pub use Rattle.logos_graph.specs.GraphOf.{IsGraphOf}
pub use Rattle.logos_graph.specs.View.{rules_of}
pub use Rattle.logos_hir.specs.Text.{IsBytes}
pub use Rattle.logos_json.specs.Lines.{Gains, Puts}
pub use Rattle.logos_json.specs.Members.{bool_member, bytes_member, maybe_bytes, null_member, number_member, object}
pub use Rattle.std.specs.List.{flat_map}
pub use Rattle.logos_records.specs.Comparing.{finding_member, mode_member}
pub use Rattle.logos_records.specs.Examples.{PutsExample, PutsExamples, example_members, loss_members}
pub use Rattle.logos_records.specs.Inputs.{AreInputRecords, PutsInputs, input_lines}
pub use Rattle.logos_records.specs.Leaves.{cost_members, leaf_members, leaf_objects, name_members, shape_members}
pub use Rattle.logos_records.specs.Matches.{AreMatchRecords, PutsMatches, end_members, match_lines, named_leaf}
