-- The effects of the program, determined by the content of its files.
use Rattle.std.specs.Prelude.{◌≡◌, ◌⊎◌, ◌∷◌, ◌++◌, [], ℕ, List, Bool, true, Option, IsTrue}
use Rattle.std.specs.Str.{IsUtf8, IsValidUpTo}
use Rattle.std.specs.Io.KnownBytes.{Appends, Keeps}
use Rattle.logos_automaton.specs.Munch.{Rule}
use Rattle.logos_token.specs.Faults.{Fault}
use Rattle.logos_token.specs.Tokens.{TokenList}
use Rattle.logos_token.specs.Printing.{printed}
use Rattle.logos_enum.specs.Values.{Slice}
use Rattle.logos_parser.specs.Endings.{EndsReading}
use Rattle.logos_strip.specs.Results.{IsStripped}
use Rattle.logos_graph.specs.View.{GraphValue}
use Rattle.logos_graph.specs.Mermaid.{mermaid_of}
use Rattle.logos_code.specs.Code.{CodeValue}
use Rattle.logos_code.specs.Items.{Item, Items}
use Rattle.logos_code.specs.declared.code.Config.{Config}
use Rattle.logos_codegen.specs.Around.{IsAroundOf}
use Rattle.logos_codegen.specs.Given.{IsGiven}
use Rattle.logos_codegen.specs.Source.{IsAccepted, IsRefused}
use Rattle.logos_host.specs.Reading.{Reads}
use Rattle.logos_tables.specs.Shapes.{IsCodeText}
use Rattle.logos_text.specs.Fronts.{AroundValue}
use Rattle.logos_host.specs.declared.failure.Failure.{Failure}
use Rattle.logos_host.specs.declared.failure.Failure.TheVariants.{NotUtf8}
use Rattle.logos_commands.specs.declared.refusals.ExportRefusal.{ExportRefusal}
use Rattle.logos_commands.specs.declared.outcome.Requested.{Requested as Part}
use Rattle.logos_commands.specs.declared.outcome.Requested.TheVariants.{Text, Diagram, Export}
use Rattle.logos_commands.specs.Commands.{Requested, requests_text, requests_items, requests_diagram, requests_export, requests_strip}
use Rattle.logos_commands.specs.Diagrams.{Destination, file_at, refused, export_destination}
use Rattle.logos_commands.specs.Lines.{emits, lines_of}
use Rattle.logos_commands.specs.Refusals.{ShowsFaultsOf, ShowsReasonOf}

-- ---- Effects

-- The effect of a command: it prints a text, or creates a file.
pub data Effect : Type 0 where
  prints : (text : List ℕ) → Effect
  makes_file : (path text : List ℕ) → Effect

-- The shape of the code from which a part is made.
abbrev pub shape_of : Part → Config
shape_of (Text shape) = shape
shape_of Diagram = record { use_state_machine_codegen = true }
shape_of Export = record { use_state_machine_codegen = true }

-- A part of a lexer with this around its function: its generated code, and LF; its state diagram;
-- or its state diagram for the file that the source names.
abbrev pub IsPart : Part → AroundValue → GraphValue → CodeValue → Slice → Option (List ℕ) → Effect → Type 0
IsPart (Text shape) around graph code name export (prints shown) = (text : List ℕ) × IsCodeText around code text × (shown ≡ text ++ 10 ∷ [])
IsPart Diagram around graph code name export (prints shown) = shown ≡ mermaid_of graph.states
IsPart Export around graph code name export (makes_file path shown) = (file_at path ≡ export_destination export name.text) × (shown ≡ mermaid_of graph.states)
IsPart part around graph code name export effect = ⊥

-- The source has no faults, and the effect shows a part of its lexer.
pub record IsPartOf (part : Part) (source : List ℕ) (effect : Effect) : Type 0 where
  pub rules : List Rule
  pub utf8 : Bool
  pub accepted : IsAccepted source rules utf8
  pub graph : GraphValue
  pub code : CodeValue
  pub name : Slice
  pub export : Option (List ℕ)
  pub given : IsGiven source (shape_of part) graph code name export
  pub around : AroundValue
  pub is_around : IsAroundOf source graph around
  pub is : IsPart part around graph code name export effect

-- The source spells an enum, and the text is the rest of the enum after stripping, and LF.
abbrev pub IsLeft : List ℕ → Effect → Type 0
IsLeft source (prints shown) = (left : TokenList) × IsStripped source left × (shown ≡ printed left ++ 10 ∷ [])
IsLeft source (makes_file path shown) = ⊥

-- The source has no faults, in UTF-8 mode the input is UTF-8, and the lines of the items of maximal
-- munch are printed. A match of a leaf with a callback is emitted.
pub record PrintsItemsOf (source input : List ℕ) (old new : Option (List ℕ)) : Type 0 where
  pub rules : List Rule
  pub utf8 : Bool
  pub accepted : IsAccepted source rules utf8
  pub is_text : IsTrue utf8 → IsUtf8 input
  pub items : List Item
  pub are : Items rules emits utf8 input 0 items
  pub appends : Appends old new (lines_of items)

-- ---- Refusals

-- The source has no faults, and its export path, or its lack of one, is refused for this reason.
pub record IsUnexported (source : List ℕ) (why : ExportRefusal) : Type 0 where
  pub config : Config
  pub graph : GraphValue
  pub code : CodeValue
  pub name : Slice
  pub export : Option (List ℕ)
  pub given : IsGiven source config graph code name export
  pub is : export_destination export name.text ≡ refused why

-- The source has no faults and is in UTF-8 mode, and the input is not UTF-8, but its first
-- `valid_up_to` bytes are.
pub record IsTorn (source input : List ℕ) (valid_up_to : ℕ) : Type 0 where
  pub rules : List Rule
  pub accepted : IsAccepted source rules true
  pub no_text : ¬ IsUtf8 input
  pub valid : IsValidUpTo input valid_up_to

-- The code is in UTF-8 mode, and the input is not UTF-8, but its first `valid_up_to` bytes are.
abbrev pub IsTornBy : CodeValue → List ℕ → Failure → Type 0
IsTornBy code input (NotUtf8 valid_up_to) = IsTrue code.utf8 × (¬ IsUtf8 input) × IsValidUpTo input valid_up_to
IsTornBy code input failure = ⊥

-- The source cannot be read as an enum, and this fault ends its reading.
pub record IsUnreadable (source : List ℕ) (faults : List Fault) : Type 0 where
  pub ending : Fault
  pub ends : EndsReading source ending
  pub one : faults ≡ ending ∷ []

-- The reason that a lexer is refused: the faults of its source; or, if its diagram is to be
-- exported, its lack of a valid path.
abbrev pub RefusesLexer : List ℕ → Part → Failure → Type 0
RefusesLexer source (Text shape) failure = ShowsFaultsOf (IsRefused source) failure
RefusesLexer source Diagram failure = ShowsFaultsOf (IsRefused source) failure
RefusesLexer source Export failure = ShowsFaultsOf (IsRefused source) failure ⊎ ShowsReasonOf (IsUnexported source) failure

-- The reason that the items of an input are refused: the faults of the source, or that the input is
-- not UTF-8.
abbrev pub IsTornInput : List ℕ → List ℕ → Failure → Type 0
IsTornInput source input (NotUtf8 valid_up_to) = IsTorn source input valid_up_to
IsTornInput source input failure = ⊥

abbrev pub RefusesInput : List ℕ → List ℕ → Failure → Type 0
RefusesInput source input failure = ShowsFaultsOf (IsRefused source) failure ⊎ IsTornInput source input failure

-- The reason that a source is not stripped: its one fault.
abbrev pub RefusesStripping : List ℕ → Failure → Type 0
RefusesStripping source failure = ShowsFaultsOf (IsUnreadable source) failure

-- The reason that a diagram with this destination is not exported.
abbrev pub RefusesExport : Destination → Failure → Type 0
RefusesExport destination failure = ShowsReasonOf (λ why. destination ≡ refused why) failure

-- ---- Files: `yields` relates the files before a read, the path, the bytes that are read, and the
-- files after it; `makes` relates the files before a write, the path, the bytes that are written,
-- and the files after it

-- The effect of a command on files and on standard output.
abbrev pub HasEffect : {F : Type 0} → (F → List ℕ → List ℕ → F → Type 0) → Effect → F → F → Option (List ℕ) → Option (List ℕ) → Type 0
HasEffect makes (prints text) files after old new = (after ≡ files) × Appends old new text
HasEffect makes (makes_file path text) files after old new = makes files path text after × Keeps old new

module _ {F : Type 0} (yields : F → List ℕ → List ℕ → F → Type 0) where
  -- A file is read, and then an input, and all items are printed.
  abbrev pub PrintsItems : List ℕ → List ℕ → F → F → Option (List ℕ) → Option (List ℕ) → Type 0
  PrintsItems file input files after old new =
      Reads yields files file (λ source between. Reads yields between input (λ bytes read. (after ≡ read) × PrintsItemsOf source bytes old new))

  -- A file is read, and then an input, which are refused with this failure.
  abbrev pub RefusesItems : List ℕ → List ℕ → F → F → Failure → Type 0
  RefusesItems file input files after failure =
      Reads yields files file (λ source between. Reads yields between input (λ bytes read. (after ≡ read) × RefusesInput source bytes failure))

  -- A file is read, and its source satisfies `Holds`.
  abbrev pub ReadsSource : List ℕ → F → F → (List ℕ → Type 0) → Type 0
  ReadsSource file files after Holds = Reads yields files file (λ source read. (after ≡ read) × Holds source)

  module _ (makes : F → List ℕ → List ℕ → F → Type 0) where
    -- A file is read, and the command has an effect that its source determines.
    abbrev pub Carries : List ℕ → F → F → Option (List ℕ) → Option (List ℕ) → (List ℕ → Effect → Type 0) → Type 0
    Carries file files after old new Yields =
        Reads yields files file (λ source read. (effect : Effect) × Yields source effect × HasEffect makes effect read after old new)

    -- The request is fulfilled.
    abbrev pub IsDone : Requested → F → F → Option (List ℕ) → Option (List ℕ) → Type 0
    IsDone (requests_text file shape) files after old new = Carries file files after old new (IsPartOf (Text shape))
    IsDone (requests_items file input shape) files after old new = PrintsItems file input files after old new
    IsDone (requests_diagram file) files after old new = Carries file files after old new (IsPartOf Diagram)
    IsDone (requests_export file) files after old new = Carries file files after old new (IsPartOf Export)
    IsDone (requests_strip file) files after old new = Carries file files after old new IsLeft

  -- The request is refused: the content of the files is invalid, and the files stay unchanged.
  abbrev pub IsDenied : Requested → F → F → Failure → Type 0
  IsDenied (requests_text file shape) files after failure = ReadsSource file files after (λ source. RefusesLexer source (Text shape) failure)
  IsDenied (requests_items file input shape) files after failure = RefusesItems file input files after failure
  IsDenied (requests_diagram file) files after failure = ReadsSource file files after (λ source. RefusesLexer source Diagram failure)
  IsDenied (requests_export file) files after failure = ReadsSource file files after (λ source. RefusesLexer source Export failure)
  IsDenied (requests_strip file) files after failure = ReadsSource file files after (λ source. RefusesStripping source failure)

-- ---- Operations on files: `reads` relates the files before and after a read; `writes` relates the
-- files before a write, the path, and the files after it. Each holds whether the operation succeeds
-- or fails

-- The file of an effect was written, or writing it failed.
abbrev pub WritesFor : {F : Type 0} → (F → List ℕ → F → Type 0) → Effect → F → F → Type 0
WritesFor writes (prints text) files after = after ≡ files
WritesFor writes (makes_file path text) files after = writes files path after

-- One or two files were read, and none was written.
abbrev pub IsLookedAt : {F : Type 0} → (F → F → Type 0) → F → F → Type 0
IsLookedAt {F} reads files after = (read : F) × reads files read × ((after ≡ read) ⊎ reads read after)

module _ {F : Type 0} (yields : F → List ℕ → List ℕ → F → Type 0) (reads : F → F → Type 0) (writes : F → List ℕ → F → Type 0) where
  -- A file was read, and then no file was written, except perhaps the one that its source
  -- determines.
  abbrev pub IsTouched : List ℕ → F → F → (List ℕ → Effect → Type 0) → Type 0
  IsTouched file files after Yields =
      (read : F) × reads files read × ((after ≡ read) ⊎ ((source path text : List ℕ) × yields files file source read × Yields source (makes_file path text) × writes read path after))

  -- The operations on files of a request, whatever the exit status.
  abbrev pub Touches : Requested → F → F → Type 0
  Touches (requests_text file shape) files after = IsTouched file files after (IsPartOf (Text shape))
  Touches (requests_items file input shape) files after = IsLookedAt reads files after
  Touches (requests_diagram file) files after = IsTouched file files after (IsPartOf Diagram)
  Touches (requests_export file) files after = IsTouched file files after (IsPartOf Export)
  Touches (requests_strip file) files after = IsTouched file files after IsLeft
