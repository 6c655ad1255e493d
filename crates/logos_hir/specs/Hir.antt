-- The tree that a `Hir` represents.
use Rattle.std.specs.Prelude.{ℕ, List, [], ◌∷◌, map}
use Rattle.logos_hir.specs.declared.hir.Range.{Range}
use Rattle.logos_hir.specs.declared.hir.Class.{Class}
use Rattle.logos_hir.specs.declared.hir.Class.TheVariants.{Bytes, Characters}
use Rattle.logos_hir.specs.declared.hir.Hir.{Hir}
use Rattle.logos_hir.specs.declared.hir.Hir.TheOpen.{Hir-F}
use Rattle.logos_hir.specs.declared.hir.Hir.TheFolds.{fold-Hir}
use Rattle.logos_hir.specs.Tree.{Tree, empty, literal, byte_class, char_class, look, repetition, capture, concat, alternation, trees}

-- The first and the last member of each range.
abbrev pub pairs : List Range → List (ℕ × ℕ)
pairs = map (λ r. (r.first, r.last))

-- The tree of a class.
abbrev pub class_tree : Class → Tree
class_tree (Bytes ranges) = byte_class (pairs ranges.items)
class_tree (Characters ranges) = char_class (pairs ranges.items)

-- The tree of a node, made from the trees of its children.
abbrev pub node_tree : Hir-F Tree → Tree
node_tree Hir-F.Empty = empty
node_tree (Hir-F.Literal bytes) = literal bytes.items
node_tree (Hir-F.Class class) = class_tree class
node_tree (Hir-F.Look l) = look l
node_tree (Hir-F.Repetition min max greedy sub) = repetition min max greedy sub.value
node_tree (Hir-F.Capture sub) = capture sub.value
node_tree (Hir-F.Concat parts) = concat (trees parts.items)
node_tree (Hir-F.Alternation branches) = alternation (trees branches.items)

-- The tree that a `Hir` represents.
abbrev pub tree_of : Hir → Tree
tree_of = fold-Hir Tree node_tree

-- The tree that matches these bytes.
abbrev pub literal_tree : List ℕ → Tree
literal_tree [] = empty
literal_tree (b ∷ bytes) = literal (b ∷ bytes)
