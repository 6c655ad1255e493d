-- The name, the type and the options of an enum.
use Rattle.std.specs.Prelude.{◌≡◌}
use Rattle.logos_type.specs.TypeTrees.{type_tree}
use Rattle.logos_enum.specs.Values.{ident_slice}
use Rattle.logos_definition.specs.ParserViews.{parser_view}
use Rattle.logos_parser.specs.Analyses.{AnalysisView, HasItsType}
use Rattle.logos_codegen.specs.declared.generation.EnumHead.{EnumHead}

-- The name, the type and the options are those of an analysis.
pub record IsHeadOf (analysis : AnalysisView) (head : EnumHead) : Type 0 where
  pub same_name : ident_slice head.name ≡ analysis.name
  pub same_type : type_tree head.this ≡ analysis.this
  pub same_options : parser_view head.options ≡ analysis.options

-- The type is that of the enum with this name and these options.
abbrev pub HeadHasItsType : EnumHead → Type 0
HeadHasItsType head = HasItsType (ident_slice head.name) (parser_view head.options) (type_tree head.this)
