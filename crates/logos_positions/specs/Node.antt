-- The core pattern of a prepared tree.
use Rattle.std.specs.Prelude.{ℕ, ◌+◌, Bool, true, ◌&&◌, ◌==◌, nat_lt, nat_le, IsTrue, List, [], ◌∷◌, Option, Some, None}
use Rattle.logos_hir.specs.Hir.{pairs}
use Rattle.logos_hir.specs.ByteRanges.{is_in}
use Rattle.logos_positions.specs.Core as core
use Rattle.logos_positions.specs.Core.{Core, width}
use Rattle.logos_positions.specs.Repeat.{spelled, repeated}
use Rattle.logos_positions.specs.Table.{reader_of}
use Rattle.logos_positions.specs.declared.node.Node.{Node}
use Rattle.logos_positions.specs.declared.node.Node.TheOpen.{Node-F}
use Rattle.logos_positions.specs.declared.node.Node.TheFolds.{fold-Node}

-- The core pattern, and whether the numbers stored in the node are correct.
pub record Sized : Type 0 where
  pub written : Core
  pub measured : Bool

-- The counts are in order, and the greatest count is not zero.
abbrev pub is_ordered : ℕ → Option ℕ → Bool
is_ordered least None = true
is_ordered least (Some most) = nat_le least most && nat_lt 0 most

-- The value of a node, made from the values of its children.
abbrev pub node_sized : Node-F Sized → Sized
node_sized Node-F.Void = record { written = core.void; measured = true }
node_sized Node-F.Empty = record { written = core.empty; measured = true }
node_sized (Node-F.Literal text) = record { written = spelled text.items; measured = true }
node_sized (Node-F.Bytes ranges) = record { written = core.byte_in (is_in (pairs ranges.items)); measured = true }
node_sized (Node-F.Characters table) = record { written = core.character (reader_of table); measured = true }
node_sized (Node-F.Look l) = record { written = core.look l; measured = true }
node_sized (Node-F.Cat whole first second) = record {
  written = core.cat first.value.written second.value.written;
  measured = (whole == width first.value.written + width second.value.written) && first.value.measured && second.value.measured;
}
node_sized (Node-F.Alt whole first second) = record {
  written = core.alt first.value.written second.value.written;
  measured = (whole == width first.value.written + width second.value.written) && first.value.measured && second.value.measured;
}
node_sized (Node-F.Repeat least most each body) = record {
  written = repeated least most body.value.written;
  measured = is_ordered least most && (each == width body.value.written) && body.value.measured;
}

-- The core pattern of a node, and whether the numbers stored in the node are correct.
abbrev pub sized_of : Node → Sized
sized_of = fold-Node Sized node_sized

-- The core pattern that a node represents.
abbrev pub core_of : Node → Core
core_of node = (sized_of node).written

-- The numbers of positions stored in a node are correct.
abbrev pub is_measured : Node → Bool
is_measured node = (sized_of node).measured

-- The numbers of positions stored in several nodes are correct.
abbrev pub AreMeasured : List Node → Type 0
AreMeasured [] = Unit {0}
AreMeasured (node ∷ nodes) = IsTrue (is_measured node) × AreMeasured nodes
