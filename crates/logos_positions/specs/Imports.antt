-- Definitions that contracts cite: those of lower crates, and those of this crate that name none of
-- its types.
pub use Rattle.logos_hir.specs.ByteRanges.{is_in}
pub use Rattle.logos_hir.specs.Hir.{class_tree, pairs, tree_of}
pub use Rattle.logos_hir.specs.Looks.{is_byte}
pub use Rattle.logos_hir.specs.Tree.{literal, repetition, trees}
pub use Rattle.logos_hir.specs.declared.hir.Look.{Look}
pub use Rattle.std.specs.Option.{MatchOption}
pub use lib.Utf8.{scalar}
pub use Rattle.logos_positions.specs.Core.{Core, Exits, byte_in}
pub use Rattle.logos_positions.specs.IsCore.{IsCoreOf}
pub use Rattle.logos_positions.specs.Marks.{Has, HasBetween, IsFirstFrom, IsRising, IsSet}
pub use Rattle.logos_positions.specs.Repeat.{IsOrdered, at_least, count_of, in_front, repeated, spelled, up_to}
pub use Rattle.logos_positions.specs.Run.{width_of}
pub use Rattle.logos_positions.specs.Size.{sizes}
pub use Rattle.logos_positions.specs.inside.Characters.{after_byte, lead, size}
pub use Rattle.logos_positions.specs.inside.Joined.{AreCoresOf, AreNear, IsEither, IsJoined, IsPair, is_within, of_none, pair_up}
pub use Rattle.logos_positions.specs.inside.Reader.{IsReaderOf, is_char_in}
pub use Rattle.logos_positions.specs.inside.Stepped.{Owes, Stepped}
