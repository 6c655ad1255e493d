-- Definitions that contracts cite: those of `Imports`, and those that name types of this crate.
pub use Rattle.logos_relex.specs.Imports.{Runs, TakesMatches, answers_of}
pub use Rattle.logos_relex.specs.Chunks.{IsChunk, LookBelow, SettlesUpTo, all_items, bytes_of, item_at, offset_of}
pub use Rattle.logos_relex.specs.Lexed.{IsInput, IsLexed, IsMade, IsRefused, LexedIsRun, Stays, WasLexed}
pub use Rattle.logos_relex.specs.declared.lexed.RelexError.TheVariants.{Memory, NotUtf8}
pub use Rattle.logos_relex.specs.inside.Anews.{ComesAfter, IsAnew, IsBorder, PutsAnew}
