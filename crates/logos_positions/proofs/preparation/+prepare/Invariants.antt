use Rattle.std.proofs.Common.{List, ◌++◌, map, drop}
use Rattle.logos_hir.specs.Tree.{trees}
use Rattle.logos_hir.specs.Hir.{tree_of}
use Rattle.logos_positions.specs.Core.{Core}
use Rattle.logos_positions.specs.inside.Joined.{AreCoresOf}
use Rattle.logos_positions.specs.Node.{core_of, AreMeasured}
use Rattle.logos_positions.proofs.preparation.+prepare.Given as goal

abbrev pub invariant-prepare_all-loop-hir : goal.invariant-prepare_all-loop-hir
invariant-prepare_all-loop-hir l = record {
  occur : (cs : List Core) → AreCoresOf (trees (map tree_of (drop l.hir-index l.hirs))) cs → AreCoresOf (trees (map tree_of l.hirs)) (map core_of l.nodes.items ++ cs);
  measured : AreMeasured l.nodes.items;
}
