-- Definitions that contracts cite: those of `Imports`, and those that name types of this crate.
pub use Rattle.logos_code.specs.Imports.{bit_at, codes, comparison_of, compares, is_among, named, passes_test, some_compares}
pub use Rattle.logos_code.specs.Code.{CodeValue, by_conditions, by_table}
pub use Rattle.logos_code.specs.CodeView.{IsValid, calls_back_for, branch_of, code_of, condition_of, entry_of, fork_of, has_mask, jumps_of, mark_of, skips_over, state_at, state_of, use_of}
pub use Rattle.logos_code.specs.Headline.{IsSound, NamesCondition, NamesFork, NamesState, NamesTest, NamesExisting}
pub use Rattle.logos_code.specs.LastMarks.{AreLastMarks, IsLastMark, last_mark_at}
pub use Rattle.logos_code.specs.Masks.{AreMasks, IsMask}
pub use Rattle.logos_code.specs.Rows.{AreRows, IsEntry, IsFirst, IsFirstEntry, IsFirstOf, IsHalting, IsLastEntry, IsRowStart, IsPlainUse, IsRow, IsStepOf, IsUse, Describes, closing, first_closing, first_halting}
pub use Rattle.logos_code.specs.Runs.{passes, stays, target}
pub use Rattle.logos_code.specs.Shapes.{shape_named}
pub use Rattle.logos_code.specs.Signs.{AreSigns, mark_by}
pub use Rattle.logos_code.specs.Uses.{IsWhole, use_by}
pub use Rattle.logos_code.specs.inside.Alike.{EndsRun}
pub use Rattle.logos_code.specs.inside.LastMarks.{Agree, BeginsUnmarked, Follows, FollowsAt, FollowsBack, ForkAgrees, IsOwn, StateAgrees}
