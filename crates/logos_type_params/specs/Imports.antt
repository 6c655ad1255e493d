-- Definitions that contracts cite: those of lower crates, and those of this crate that name none of
-- its types.
pub use Rattle.logos_token.specs.Tokens.{run_span}
pub use Rattle.logos_token.specs.Views.{tokens_of}
pub use Rattle.logos_type.specs.Depth.{exceeds}
pub use Rattle.logos_type.specs.Parts.{Tree, name, sign_of, tree_of, trees, whole}
pub use Rattle.logos_type.specs.TypeTrees.{type_tree}
pub use Rattle.logos_type_reader.specs.ReadingViews.{IfFault}
pub use Rattle.logos_type_reader.specs.TypeExprs.{IsTypeExpr, NoTypeExpr}
pub use Rattle.logos_type_params.specs.NameLists.{is_declared}
pub use Rattle.logos_type_params.specs.SubstitutionViews.{IfDeep}
