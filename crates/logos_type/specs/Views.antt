-- Definitions that contracts cite: those of `Imports`, and those that name types of this crate.
pub use Rattle.logos_type.specs.Imports.{print_part, printed_of}
pub use Rattle.logos_type.specs.Depth.{depth, exceeds, some_exceed}
pub use Rattle.logos_type.specs.Parts.{Tree, sign_of, tree_of, trees}
pub use Rattle.logos_type.specs.Printed.{lifetime_parts, printed_type, sign_parts, type_parts}
pub use Rattle.logos_type.specs.TypeTrees.{type_tree}
