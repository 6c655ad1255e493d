-- Definitions that contracts cite: those of `Imports`, and those that name types of this crate.
pub use Rattle.logos_host.specs.Imports.{Appends, AppendsFront, shown_char, shown_text}
pub use Rattle.logos_host.specs.Failures.{IsNoMisuse, IsOutputFailure, IsReadingFailure, IsUnread, IsUnwritten, IsWritingFailure, status_of}
pub use Rattle.logos_host.specs.Messages.{hint_line, message_of, misuse_line, path_line}
pub use Rattle.logos_host.specs.PlainMessages.{plain_message_of}
pub use Rattle.logos_host.specs.declared.failure.Failure.TheVariants.{Closed, Memory, Output}
