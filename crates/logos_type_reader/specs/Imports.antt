-- Definitions that contracts cite: those of lower crates, and those of this crate that name none of
-- its types.
pub use Rattle.logos_token.specs.Tokens.{IsRestOf, TokenList, count_of, rest_of, run_span}
pub use Rattle.logos_token.specs.Views.{inside_of, tokens_of}
pub use Rattle.logos_type.specs.Depth.{depth}
pub use Rattle.logos_type.specs.Parts.{Tree, also, closing, none, opening, sign, sign_of, still, tree_of, trees}
pub use Rattle.logos_type.specs.TypeTrees.{type_tree}
pub use Rattle.logos_type_reader.specs.StillRuns.{still_run, still_token}
