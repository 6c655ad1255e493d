-- Definitions that contracts cite: those of `Imports`, and those that name types of this crate.
pub use Rattle.logos_reduce.specs.Imports.{AreFiled, AreHits, ArePredecessors, AreRising, AreSources, Grows, IsMarked, IsMet, Rises, has, has_in, target_by, target_in, target_of}
pub use Rattle.logos_reduce.specs.Evidence.{Distinguishes, IsEvidence, mark_after, mark_with_end}
pub use Rattle.logos_reduce.specs.History.{YieldsEvidence}
pub use Rattle.logos_reduce.specs.Merge.{AreLeaders, IsMerged, IsSound, target_block}
pub use Rattle.logos_reduce.specs.Number.{AreUsed, IsInTurn, IsNumbered}
pub use Rattle.logos_reduce.specs.Prune.{IsPrunedTable}
pub use Rattle.logos_reduce.specs.Raw.{IsRaw}
pub use Rattle.logos_reduce.specs.Reduction.{IsInOrder, IsLeast, IsReductionOf, IsSpareless}
pub use Rattle.logos_reduce.specs.RowsView.{rows_of}
pub use Rattle.logos_reduce.specs.Settle.{IsNeeded, IsSettled, IsSpare}
pub use Rattle.logos_reduce.specs.SymbolWords.{state_after}
pub use Rattle.logos_reduce.specs.Table.{mark, mark_in, size, to, type_of}
pub use Rattle.logos_reduce.specs.inside.Classes.{AreClasses, IsClassTable}
pub use Rattle.logos_reduce.specs.inside.Evidence.{ArePartedAt}
pub use Rattle.logos_reduce.specs.inside.Merge.{IsExtension, IsFiner, IsLanding}
pub use Rattle.logos_reduce.specs.inside.Prune.{AreUseful, IsSeed, met_target}
pub use Rattle.logos_reduce.specs.inside.Settle.{AreCommon, AreCommonIn, AreNeeded, IsCommonIn, IsMarkedBy, IsSet, accepted_in}
