-- Definitions that contracts cite: those of lower crates, and those of this crate that name none of
-- its types.
pub use Rattle.logos_hir.specs.ByteRanges.{is_in}
pub use Rattle.logos_hir.specs.Hir.{class_tree, pairs, tree_of}
pub use Rattle.logos_hir.specs.Tree.{trees}
pub use Rattle.logos_positions.specs.Core.{Core, byte_in}
pub use Rattle.logos_positions.specs.Kinds.{kind_of_byte}
pub use Rattle.logos_positions.specs.Marks.{Has, IsFirstFrom, IsRising}
pub use Rattle.logos_positions.specs.Node.{AreMeasured, core_of, is_measured}
pub use Rattle.logos_positions.specs.Repeat.{spelled}
pub use Rattle.logos_positions.specs.Run.{width_of}
pub use Rattle.logos_positions.specs.Several.{AreStarts}
pub use Rattle.logos_positions.specs.Size.{size, sizes}
pub use Rattle.logos_positions.specs.Table.{reader_of}
pub use Rattle.logos_positions.specs.declared.node.Node.{Node}
pub use Rattle.std.specs.Iterator.{YieldsFirstBy, item_count}
pub use Rattle.std.specs.List.{All, range_with_len}
pub use Rattle.logos_automaton.specs.Automaton.{IsTotal, ReadsOneByteLate, dfa_next}
pub use Rattle.logos_automaton.specs.Faults.{AllStart, AreAmbiguous, AreFaults, ArePassable, Ascends, disambiguation, empty_match}
pub use Rattle.logos_automaton.specs.Measures.{IsWithinLimit, size_of}
pub use Rattle.logos_automaton.specs.Munch.{priority_of}
pub use Rattle.logos_automaton.specs.Reach.{AreReachable, IsReachable}
pub use Rattle.logos_automaton.specs.Rules.{AreFree, AreRuleCores}
pub use Rattle.logos_automaton.specs.Targets.{AreByteRows, EndWithin, LeadWithin}
pub use Rattle.logos_automaton.specs.inside.TopSets.{AreTopSets, IsTopIn, IsTopSet, highest_of, top_of, with_priority}
