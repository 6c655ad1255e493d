-- Definitions that contracts cite: those of lower crates, and those of this crate that name none of
-- its types.
pub use Rattle.logos_code.specs.Bytes.{passes_test}
pub use Rattle.logos_code.specs.CodeView.{calls_back_for, fork_of, state_at}
pub use Rattle.logos_code.specs.Headline.{IsSound, NamesTest}
pub use Rattle.logos_code.specs.Items.{error, token}
pub use Rattle.logos_code.specs.Rows.{IsEntry, IsRowStart}
pub use Rattle.logos_code.specs.Runs.{Does, EndsError, Runs, Attempts, looped, marked, target}
pub use Rattle.logos_code.specs.Signs.{mark_by}
pub use Rattle.std.specs.Coded.{codes}
pub use Rattle.std.specs.Str.{IsValidUpTo}
pub use lib.Lanes.{mask_l}
pub use mir.Syntax.{named}
pub use Rattle.logos_machine.specs.inside.IsAt.{IsStatus, StaysWithin}
