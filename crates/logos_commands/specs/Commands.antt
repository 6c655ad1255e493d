-- The requests in the arguments of `logos`.
use Rattle.std.specs.Prelude.{◌∷◌, [], ℕ, List, Option, Some, None, true, if◌then◌else◌, option_map, bytes_eq, codes}
use Rattle.logos_code.specs.declared.code.Config.{Config}
use Rattle.logos_code.specs.Shapes.{shape_named}
use Rattle.logos_options.specs.Options.{word_of}
use Rattle.logos_options.specs.declared.options.OptionName.TheVariants as options
use Rattle.logos_commands.specs.declared.command.Command.{Command}
use Rattle.logos_commands.specs.declared.command.Command.TheVariants.{Text, Items, Diagram, Export, Strip}

-- The request of the arguments: the generated code of the lexer in a file; the items of an input;
-- the state diagram of the lexer, printed or in a file; or the enum without the derive and its
-- attributes.
pub data Requested : Type 0 where
  requests_text : (file : List ℕ) → (shape : Config) → Requested
  requests_items : (file input : List ℕ) → (shape : Config) → Requested
  requests_diagram : (file : List ℕ) → Requested
  requests_export : (file : List ℕ) → Requested
  requests_strip : (file : List ℕ) → Requested

-- The shape that the last arguments select: one loop over a state if there are none.
abbrev pub shape_in : List (List ℕ) → Option Config
shape_in [] = Some (record { use_state_machine_codegen = true })
shape_in (option ∷ name ∷ []) = if bytes_eq option (word_of options.Shape) then shape_named name else None
shape_in arguments = None

-- The request of `gen` with these arguments: a file, and optionally a shape.
abbrev pub text_in : List (List ℕ) → Option Requested
text_in (file ∷ rest) = option_map (requests_text file) (shape_in rest)
text_in [] = None

-- The request of `lex` with these arguments: a file, an input, and optionally a shape.
abbrev pub items_in : List (List ℕ) → Option Requested
items_in (file ∷ input ∷ rest) = option_map (requests_items file input) (shape_in rest)
items_in arguments = None

-- The request of `mermaid` with these arguments: a file.
abbrev pub diagram_in : List (List ℕ) → Option Requested
diagram_in (file ∷ []) = Some (requests_diagram file)
diagram_in arguments = None

-- The request of `export` with these arguments: a file.
abbrev pub export_in : List (List ℕ) → Option Requested
export_in (file ∷ []) = Some (requests_export file)
export_in arguments = None

-- The request of `strip` with these arguments: a file.
abbrev pub strip_in : List (List ℕ) → Option Requested
strip_in (file ∷ []) = Some (requests_strip file)
strip_in arguments = None

-- The request of the arguments, if they are valid.
abbrev pub requested : List (List ℕ) → Option Requested
requested [] = None
requested (name ∷ rest) =
    if bytes_eq name (codes "gen") then text_in rest
    else (if bytes_eq name (codes "lex") then items_in rest
    else (if bytes_eq name (codes "mermaid") then diagram_in rest
    else (if bytes_eq name (codes "export") then export_in rest
    else (if bytes_eq name (codes "strip") then strip_in rest
    else None))))

-- The request of a command.
abbrev pub command_requested : Command → Requested
command_requested (Text file config) = requests_text file.now config
command_requested (Items request) = requests_items request.source.now request.input.now request.config
command_requested (Diagram file) = requests_diagram file.now
command_requested (Export file) = requests_export file.now
command_requested (Strip file) = requests_strip file.now
