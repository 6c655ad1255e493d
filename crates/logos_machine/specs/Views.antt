-- Definitions that contracts cite: those of `Imports`, and those that name types of this crate.
pub use Rattle.logos_machine.specs.Imports.{Does, EndsError, IsEntry, IsRowStart, IsSound, IsStatus, IsValidUpTo, NamesTest, Runs, StaysWithin, Attempts, calls_back_for, codes, error, fork_of, looped, mark_by, marked, mask_l, named, passes_test, state_at, target, token}
pub use Rattle.logos_machine.specs.LexerValue.{Ends, Yields, Keeps, LexerValue, MatchYields, Takes, TakesMatches, answers_of, begun, item_of}
pub use Rattle.logos_machine.specs.Loops.{EndIsRun, NextAddsItem, RunsGoOver}
pub use Rattle.logos_machine.specs.Streams.{HasBranches, IsClosed, IsOpen, NoBranches, PartsAreOfTheWhole, RunsGoLater, AttemptsAgree}
pub use Rattle.logos_machine.specs.Within.{DoesWithin, YieldsWithin, KeepsGiven, Waits}
pub use Rattle.logos_machine.specs.inside.Attempts.{context_of, found_of, status_of, turn_of}
pub use Rattle.logos_machine.specs.inside.Looks.{IsOutcome, LooksAhead, Reaches, StopsAt}
pub use Rattle.logos_machine.specs.inside.Parts.{IsSettled, Moves}
