-- Definitions that contracts cite: those of lower crates, and those of this crate that name none of
-- its types.
pub use Rattle.logos_expand.specs.Expanding.{IsExpanded}
pub use Rattle.logos_expand.specs.Gathering.{FailsBy, IsRefusedFor}
pub use Rattle.logos_host.specs.Failures.{status_of}
pub use Rattle.logos_host.specs.Messages.{message_of}
pub use Rattle.logos_host.specs.Reading.{Reads}
pub use Rattle.logos_options.specs.Arguments.{arguments_value}
pub use Rattle.logos_options.specs.Paths.{texts_of}
pub use Rattle.std.specs.Io.KnownBytes.{Appends, Keeps}
