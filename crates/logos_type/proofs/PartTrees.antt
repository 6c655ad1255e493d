-- The tree of each form of a part.
use Rattle.std.proofs.Common.{◌≡◌, ℕ, List, map, Vec, Bor, Global, sym, ap, ◌∙◌}
use Rattle.logos_type.specs.declared.type_expr.TypeToken.{TypeToken as LeafType}
use Rattle.logos_type.specs.declared.type_expr.TypePart.{TypePart, TypePart-F, fold-roll-TypePart}
use Rattle.logos_type.specs.declared.type_expr.TypePart.TheVariants.{Leaf, Name, Whole, Still, rolls-Leaf, rolls-Name, rolls-Whole, rolls-Still}
use Rattle.logos_type.specs.Parts.{Tree, sign, name, whole, still, trees, sign_of, tree_of, node_tree}

pub tree-Leaf : (leaf : LeafType) → tree_of (Leaf leaf) ≡ sign (sign_of leaf)
tree-Leaf leaf = ap tree_of (sym (rolls-Leaf leaf)) ∙ fold-roll-TypePart Tree node_tree (TypePart-F.Leaf leaf)

pub tree-Name : (text : Bor (List ℕ)) → tree_of (Name text) ≡ name text.now
tree-Name text = ap tree_of (sym (rolls-Name text)) ∙ fold-roll-TypePart Tree node_tree (TypePart-F.Name text)

pub tree-Whole : (parts : Vec TypePart Global) → tree_of (Whole parts) ≡ whole (trees (map tree_of parts.items))
tree-Whole parts = ap tree_of (sym (rolls-Whole parts)) ∙ fold-roll-TypePart Tree node_tree (TypePart-F.Whole parts)

pub tree-Still : (parts : Vec TypePart Global) → tree_of (Still parts) ≡ still (trees (map tree_of parts.items))
tree-Still parts = ap tree_of (sym (rolls-Still parts)) ∙ fold-roll-TypePart Tree node_tree (TypePart-F.Still parts)
