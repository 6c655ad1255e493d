-- Definitions that contracts cite: those of `Imports`, and those that name types of this crate.
pub use Rattle.logos_syntax.specs.Imports.{Flags, Group, IsFound, IsTooDeep, Refuses, Spells, State, Text, Tree, all_branches, all_parts, fresh, fresh_frame, list_any, next_branch, pattern_nesting, put, repeat, set, set_of, start, step, token_view, tree_of, value, whole, whole_tree}
pub use Rattle.logos_syntax.specs.inside.BracketView.{BracketSteps, IsStopOf, ReadsBracket, ReadsInside, frame_view, frames_view}
pub use Rattle.logos_syntax.specs.inside.GroupNames.{Admits, HasNames}
pub use Rattle.logos_syntax.specs.inside.GroupsView.{Ends, Repeats, Steps, group_view, part_view, state_view}
pub use Rattle.logos_syntax.specs.inside.Reading.{IfDeepText, ReadsSimple, ReadsToken, StopsText}
