-- The result of `generate` for a source without faults.
use Rattle.std.specs.Prelude.{◌≡◌, ℕ, List, [], map, Option, Some, None, option_map, slice_get}
use Rattle.logos_lexeme.specs.declared.lexeme.Span.{Span}
use Rattle.logos_token.specs.declared.token.Ident.{Ident}
use Rattle.logos_type.specs.TypeTrees.{type_tree}
use Rattle.logos_type_params.specs.Generics.{generics}
use Rattle.logos_enum.specs.EnumValues.{EnumValue}
use Rattle.logos_enum.specs.Values.{Slice, ident_slice}
use Rattle.logos_attribute.specs.CallbackViews.{callback_view}
use Rattle.logos_attribute.specs.Callbacks.{CallbackView}
use Rattle.logos_definition.specs.Options.{OptionsView, utf8_mode}
use Rattle.logos_pattern.specs.Leaf.{kind_value, variant_name}
use Rattle.logos_pattern.specs.declared.leaf.Leaf.{Leaf}
use Rattle.logos_leaf.specs.LeafViews.{leaf_view}
use Rattle.logos_parser.specs.Endings.{YieldsEnum}
use Rattle.logos_parser.specs.EnumTypes.{enum_type}
use Rattle.logos_parser.specs.Analyses.{ReadsEnum}
use Rattle.logos_graph.specs.GraphOf.{IsGraphOf}
use Rattle.logos_graph.specs.View.{GraphValue}
use Rattle.logos_code.specs.Code.{CodeValue}
use Rattle.logos_generator.specs.GeneratorValue.{leaf_value, code_leaf_value}
use Rattle.logos_code.specs.declared.code.Config.{Config}

-- The source spells an enum of this name without faults, with these options. The leaves of the
-- graph are the enum's leaves, in order, its mode is the source's, and it is the graph of these
-- leaves, without faults.
pub record IsGraphOfSource (source : List ℕ) (name : Slice) (options : OptionsView) (graph : GraphValue) : Type 0 where
  pub enum : EnumValue
  pub item : Span
  pub reads_as : YieldsEnum source enum item
  pub is_name : enum.name ≡ name
  pub enum_reads : ReadsEnum enum (map leaf_view graph.leaves) options []
  pub same_mode : graph.utf8 ≡ utf8_mode options
  pub of_leaves : IsGraphOf graph.leaves graph.utf8 graph
  pub faultless : graph.faults ≡ []

-- The callback for errors.
abbrev pub error_callback : OptionsView → Option CallbackView
error_callback options = elim options.error_type [ None ↦ None | Some error ↦ error.callback ]

-- The code has the shape, the name of the enum, its type, the callback for errors, and for each
-- leaf its kind and its callback.
pub record KeepsEnum (config : Config) (name : Slice) (options : OptionsView) (graph : GraphValue) (code : CodeValue) : Type 0 where
  pub shape : code.header.shape ≡ config
  pub same_name : ident_slice code.header.name ≡ name
  pub this : type_tree code.header.this ≡ enum_type name.text (generics options.types)
  pub on_error : option_map callback_view code.header.error_callback ≡ error_callback options
  pub leaves : map code_leaf_value code.code_leaves ≡ map leaf_value graph.leaves

-- The result for a source without faults: its graph, a code in this shape, its name, and the path
-- of its state diagram, if the options have one.
pub record IsGiven (source : List ℕ) (config : Config) (graph : GraphValue) (code : CodeValue) (name : Slice) (export : Option (List ℕ)) : Type 0 where
  pub options : OptionsView
  pub of_source : IsGraphOfSource source name options graph
  pub keeps : KeepsEnum config name options graph code
  pub exports : export ≡ option_map (λ e. e.path) options.export_path

-- The name of the variant of the leaf with this number. A skip has none, and neither has a number
-- without a leaf.
abbrev pub variant_at : List Leaf → ℕ → Option Ident
variant_at leaves number = elim (slice_get leaves number) [ None ↦ None | Some leaf ↦ variant_name (kind_value leaf.kind) ]
