-- Definitions that contracts cite: those of lower crates, and those of this crate that name none of
-- its types.
pub use Rattle.logos_reduce.specs.Edges.{IsMarked}
pub use Rattle.logos_reduce.specs.Lists.{ArePredecessors, AreRising, Rises, has, has_in}
pub use Rattle.logos_reduce.specs.Order.{IsMet, IsOrder}
pub use Rattle.logos_reduce.specs.Rows.{target_by, target_in, target_of}
pub use Rattle.logos_reduce.specs.inside.Lists.{AreFiled, AreHits, AreSources, HaveMoved, landing}
pub use Rattle.logos_reduce.specs.inside.Order.{Grows}
