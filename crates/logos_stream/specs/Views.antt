-- Definitions that contracts cite: those of `Imports`, and those that name types of this crate.
pub use Rattle.logos_stream.specs.Imports.{TakesMatches, answers_of, begun, codes, item_later, item_of, named}
pub use Rattle.logos_stream.specs.Fronts.{IsFront, IsWithout, end_of, item_with, start_of}
pub use Rattle.logos_stream.specs.Lefts.{AllAreOfTheWhole, AreLeft, MayRead, Steps}
pub use Rattle.logos_stream.specs.Moves.{Finishes, Yields, IsPutOff, IsTorn, Waits}
pub use Rattle.logos_stream.specs.Nexts.{DoesNext}
pub use Rattle.logos_stream.specs.StreamValue.{KeepsCode, StreamValue, at_start}
pub use Rattle.logos_stream.specs.Tails.{IsTail}
pub use Rattle.logos_stream.specs.Wholes.{StreamsAreOfTheWhole}
pub use Rattle.logos_stream.specs.WindowValue.{GoesPast, IsWindow, ReadsOn, StaysUnread, WindowValue, nothing_read, unread_length}
