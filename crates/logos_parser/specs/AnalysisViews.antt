-- The views of an analysis in contracts.
use Rattle.std.specs.Prelude.{map}
use Rattle.logos_type.specs.TypeTrees.{type_tree}
use Rattle.logos_enum.specs.Values.{ident_slice}
use Rattle.logos_definition.specs.ParserViews.{parser_view}
use Rattle.logos_leaf.specs.LeafViews.{leaf_view}
use Rattle.logos_parser.specs.declared.analysis.Analysis.{Analysis}
use Rattle.logos_parser.specs.Analyses.{AnalysisView}

-- An analysis as a value.
abbrev pub analysis_view : Analysis → AnalysisView
analysis_view analysis = record {
  name = ident_slice analysis.name;
  span = analysis.span;
  leaves = map leaf_view analysis.leaves.items;
  options = parser_view analysis.parser;
  this = type_tree analysis.this;
  faults = analysis.parser.errors;
}
