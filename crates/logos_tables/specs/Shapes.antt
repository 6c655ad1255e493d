-- The shapes in which lexers are printed.
use Rattle.std.specs.Prelude.{ℕ, List, [], Option, true}
use Rattle.logos_code.specs.Code.{CodeValue}
use Rattle.logos_code.specs.declared.code.Config.{Config}
use Rattle.logos_codegen.specs.Around.{IsAroundOf}
use Rattle.logos_codegen.specs.Given.{IsGiven}
use Rattle.logos_enum.specs.Values.{Slice}
use Rattle.logos_graph.specs.View.{GraphValue}
use Rattle.logos_tables.specs.Texts.{HoldsTables}
use Rattle.logos_tables.specs.declared.shape.Shape.{Shape}
use Rattle.logos_tables.specs.declared.shape.Shape.TheVariants.{Code, Tables}
use Rattle.logos_text.specs.Fronts.{AroundValue, BeginsWith, opening_text, short_core}
use Rattle.logos_text.specs.FrontRuns.{front_runs, text_runs}
use Rattle.logos_text.specs.Occurrence.{OccurInOrder}
use Rattle.logos_text.specs.Texts.{texts_of}
use Rattle.logos_token.specs.Tokens.{TokenList}
use Rattle.logos_type.specs.Printed.{printed_type}
use Rattle.logos_type.specs.TypeTrees.{type_tree}

-- The shape of the code from which a lexer is printed.
abbrev pub config_of : Shape → Config
config_of (Code config) = config
config_of Tables = record { use_state_machine_codegen = true }

-- A text is the generated code of a code value, with these texts around its function: it begins
-- with the head of an implementation for the type of the enum, and the texts of all bit tables and
-- those of all conditions are in it.
pub record IsCodeText (around : AroundValue) (code : CodeValue) (shown : List ℕ) : Type 0 where
  pub occur : OccurInOrder (texts_of code) shown
  pub begins : BeginsWith (opening_text [] short_core around (printed_type (type_tree code.header.this))) shown

-- A code is printed in a shape, with these texts around its function: as generated code, or as the
-- front of an implementation and tables that hold all steps of the code.
abbrev pub IsShown : Shape → AroundValue → CodeValue → List ℕ → Type 0
IsShown (Code config) around code shown = IsCodeText around code shown
IsShown Tables around code shown = HoldsTables around code shown

-- The tokens of a source that are printed for a code in a shape, with these texts around its
-- function.
abbrev pub shape_runs : Shape → AroundValue → CodeValue → List TokenList
shape_runs (Code config) around code = text_runs around code
shape_runs Tables around code = front_runs around code

-- `code` is the code of the lexer of a source without faults, in this shape, and `around` are the
-- texts around its function, as the options of the source determine them.
pub record IsLexerOf (shape : Shape) (source : List ℕ) (around : AroundValue) (code : CodeValue) : Type 0 where
  pub graph : GraphValue
  pub name : Slice
  pub export : Option (List ℕ)
  pub given : IsGiven source (config_of shape) graph code name export
  pub is_around : IsAroundOf source graph around

-- The text of a lexer of a source without faults, in this shape.
pub record IsLexerText (shape : Shape) (source shown : List ℕ) : Type 0 where
  pub around : AroundValue
  pub code : CodeValue
  pub lexer : IsLexerOf shape source around code
  pub occur : IsShown shape around code shown
