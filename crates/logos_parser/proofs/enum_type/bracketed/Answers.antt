use Rattle.std.proofs.Common.{◌∙◌, [], ◌∷◌, ◌++◌, List, ap, not, map}
use Rattle.logos_type.specs.Parts.{Tree, whole, trees}
use Rattle.logos_type.specs.TypeTrees.{type_tree}
use Rattle.logos_type.specs.declared.type_expr.TypeToken.TheVariants.{Word, Mark}
use Rattle.logos_type.proofs.PartTrees.{tree-Leaf, tree-Whole}
use Rattle.logos_parser.specs.EnumTypes.{less, greater, arguments, lifetime_argument}
use Rattle.logos_parser.proofs.enum_type.bracketed.Goals as goal

pub returns : goal.returns
returns c =
    let named = rw (c.new-parts.ensures.items, tree-Leaf (Word c.args.name)) at c.in_ok-push_part.ensures in
    let opened = (rw (tree-Leaf (Mark 60)) at c.in_ok-push_part-2.ensures) ∙ ap (λ (ts : List Tree). ts ++ less ∷ []) named in
    let leading = c.in_ok-push_lifetime.ensures ∙ ap (λ (ts : List Tree). ts ++ lifetime_argument c.args.lifetime) opened in
    let filled = c.in_ok-push_arguments.ensures ∙ ap (λ (ts : List Tree). ts ++ arguments (not c.args.lifetime) (map type_tree c.args.types.items)) leading in
    let closed = (rw (tree-Leaf (Mark 62)) at c.in_ok-push_part-3.ensures) ∙ ap (λ (ts : List Tree). ts ++ greater ∷ []) filled in
    tree-Whole _ ∙ ap (λ (ts : List Tree). whole (trees ts)) closed
