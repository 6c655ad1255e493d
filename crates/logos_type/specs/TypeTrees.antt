-- The parts that a value of type `TypeExpr` represents.
use Rattle.logos_type.specs.declared.type_expr.TypeExpr.{TypeExpr}
use Rattle.logos_type.specs.Parts.{Tree, tree_of}

-- The tree of a type, independent of its memory and of its spans.
abbrev pub type_tree : TypeExpr → Tree
type_tree type = tree_of type.part
