-- The text around the lexer of a source, as its options determine it.
use Rattle.std.specs.Prelude.{◌≡◌, ℕ, Bool, List, codes, Option, Some, None, if◌then◌else◌}
use Rattle.logos_codegen.specs.Given.{IsGraphOfSource}
use Rattle.logos_definition.specs.ErrorTypes.{ErrorView}
use Rattle.logos_definition.specs.Options.{OptionsView}
use Rattle.logos_enum.specs.Values.{Slice}
use Rattle.logos_graph.specs.View.{GraphValue}
use Rattle.logos_text.specs.Fronts.{AroundValue}
use Rattle.logos_token.specs.Tokens.{TokenList}
use Rattle.logos_type.specs.Parts.{Tree}

-- The type of inputs, with the gap after it.
abbrev pub input_text : Bool → List ℕ
input_text utf8 = if utf8 then codes "str " else codes "[ u8 ] "

-- The tokens of the type of errors, and that type as it was read.
abbrev pub error_run : Option ErrorView → Option TokenList
error_run None = None
error_run (Some error) = error.type_run

abbrev pub error_tree : Option ErrorView → Option Tree
error_tree None = None
error_tree (Some error) = error.type

-- The text around a lexer with these options, in this mode.
abbrev pub around_given : OptionsView → Bool → AroundValue
around_given options utf8 = record {
  logos = options.logos_path;
  error = error_run options.error_type;
  error_type = error_tree options.error_type;
  extras = options.extras;
  source = input_text utf8;
}

-- `around` is the text around the lexer of a source with this graph, as the options of the source
-- determine it.
pub record IsAroundOf (source : List ℕ) (graph : GraphValue) (around : AroundValue) : Type 0 where
  pub name : Slice
  pub options : OptionsView
  pub of_source : IsGraphOfSource source name options graph
  pub is : around ≡ around_given options graph.utf8
