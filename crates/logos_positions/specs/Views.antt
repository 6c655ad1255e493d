-- Definitions that contracts cite: those of `Imports`, and those that name types of this crate.
pub use Rattle.logos_positions.specs.Imports.{AreCoresOf, AreNear, Core, Exits, Has, HasBetween, IsCoreOf, IsEither, IsFirstFrom, IsJoined, IsOrdered, IsPair, IsReaderOf, IsRising, IsSet, Look, MatchOption, Owes, Stepped, after_byte, at_least, byte_in, class_tree, count_of, in_front, is_byte, is_char_in, is_in, is_within, lead, literal, of_none, pair_up, pairs, repeated, repetition, scalar, size, sizes, spelled, tree_of, trees, up_to, width_of}
pub use Rattle.logos_positions.specs.Kinds.{is_word_byte, kind_of_byte, side_before, test_at}
pub use Rattle.logos_positions.specs.Node.{AreMeasured, core_of, is_measured}
pub use Rattle.logos_positions.specs.Several.{AreStarts, IsStepOf, LeftBy, ReadBy}
pub use Rattle.logos_positions.specs.Table.{reader_of}
pub use Rattle.logos_positions.specs.inside.Ranges.{AreParts, ClipsTo, from_floor, in_range, in_ranges}
