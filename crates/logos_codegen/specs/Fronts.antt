-- The texts around the body of a lexer, determined by the options of its source.
use Rattle.std.specs.Prelude.{ℕ, Bool, List, [], option_map}
use Rattle.logos_token.specs.Views.{stream_tokens}
use Rattle.logos_type.specs.Printed.{printed_type}
use Rattle.logos_type.specs.TypeTrees.{type_tree}
use Rattle.logos_definition.specs.ErrorTypeViews.{error_view, run_in}
use Rattle.logos_text.specs.Fronts.{AroundValue, BeginsWith, IsFront, opening_text, short_core}
use Rattle.logos_codegen.specs.Around.{error_run, error_tree, input_text}
use Rattle.logos_codegen.specs.declared.frame.AroundOptions.{AroundOptions}
use Rattle.logos_codegen.specs.declared.generation.Generated.{Generated}

-- The texts around a lexer with these options, in this mode.
abbrev pub around_options : AroundOptions → Bool → AroundValue
around_options options utf8 = record {
  logos = option_map stream_tokens options.library;
  error = error_run (option_map error_view options.error_type);
  error_type = error_tree (option_map error_view options.error_type);
  extras = run_in options.extras;
  source = input_text utf8;
}

-- The texts around the lexer of a source, determined by its options and its mode.
abbrev pub around_made : Generated → AroundValue
around_made made = around_options made.options made.graph.utf8

-- The text begins an implementation of `Logos` for the type of the enum: its head and the imports
-- of its function.
abbrev pub BeginsImplementation : Generated → List ℕ → Type 0
BeginsImplementation made = BeginsWith (opening_text [] short_core (around_made made) (printed_type (type_tree made.code.header.this)))

-- The text is the beginning of an implementation by tables, up to the functions for errors, matches
-- and tokens.
abbrev pub IsFrontOf : Generated → List ℕ → Type 0
IsFrontOf made = IsFront (around_made made) (printed_type (type_tree made.code.header.this))
