-- The effects of a run of the program, determined by the content of its files. `yields` relates the
-- files before a read, the path, the bytes that are read, and the files after it.
use Rattle.std.specs.Prelude.{◌≡◌, ℕ, Bool, true, false, List, [], Option, Some, None}
use Rattle.logos_code.specs.Code.{CodeValue}
use Rattle.logos_code.specs.declared.code.Config.{Config}
use Rattle.logos_codegen.specs.Given.{IsGiven}
use Rattle.logos_codegen.specs.Source.{IsAccepted}
use Rattle.logos_enum.specs.Values.{Slice}
use Rattle.logos_graph.specs.View.{GraphValue, rules_of}
use Rattle.logos_host.specs.Reading.{Reads}
use Rattle.logos_lines.specs.declared.location.Location.{Location}
use Rattle.logos_options.specs.Arguments.{is_set, setting}
use Rattle.logos_options.specs.Paths.{path_named}
use Rattle.logos_options.specs.declared.options.OptionName.TheVariants as options
use Rattle.logos_report.specs.Locations.{SourceValue}
use Rattle.logos_rust_file.specs.declared.finder.FoundEnum.{FoundEnum}
use Rattle.logos_replies.specs.Answers.{PrintsAgreement, PrintsInputRecords, PrintsInputs, PrintsMatchRecords, PrintsMatches}
use Rattle.logos_show.specs.Choices.{IsLexerOf}
use Rattle.logos_show.specs.Parts.{IsPartAt}
use Rattle.logos_replies.specs.Verdicts.{PrintsVerdict}
use Rattle.logos_replies.specs.declared.replies.Agreement.{Agreement}
use Rattle.logos_replies.specs.declared.replies.Agreement.TheVariants.{Same}
use Rattle.logos_questions.specs.Orders.{OrderValue, QuestionValue, Requested, comparison, diagram, examples, inputs, items, leaves, matches, page, requests_help, requests_showing, requests_version}

-- The shape of the code of the lexers.
abbrev pub shape : Config
shape = record { use_state_machine_codegen = true }

-- A text has a requested enum, which has no faults, and this is the graph of its lexer.
pub record IsLexerIn (text : List ℕ) (name : Option (List ℕ)) (graph : GraphValue) : Type 0 where
  pub one : FoundEnum
  pub chosen : IsLexerOf text name one
  pub source : List ℕ
  pub part : IsPartAt text one.span source
  pub accepted : IsAccepted source (rules_of graph.leaves) graph.utf8
  pub code : CodeValue
  pub ident : Slice
  pub export : Option (List ℕ)
  pub given : IsGiven source shape graph code ident export

-- Whether the answer is JSON.
abbrev pub is_json : OrderValue → Bool
is_json order = is_set options.Json order.settings

-- The name of the requested enum, if one is given.
abbrev pub name_in : OrderValue → Option (List ℕ)
name_in order = setting options.Enum order.settings

-- The argument that names a stored answer, if one is given.
abbrev pub expected_in : OrderValue → Option (List ℕ)
expected_in order = setting options.Expect order.settings

-- The matches from a location of an input were written to standard output, as JSON or as text.
abbrev pub PrintsMatchesAs : Bool → GraphValue → CodeValue → List ℕ → Location → Option (List ℕ) → Option (List ℕ) → Type 0
PrintsMatchesAs true graph code input location old new = PrintsMatchRecords graph.leaves input location old new
PrintsMatchesAs false graph code input location old new = PrintsMatches graph.leaves code input location old new

-- Inputs that take all edges of a graph were written to standard output, as JSON or as text.
abbrev pub PrintsInputsAs : Bool → GraphValue → ℕ → Option (List ℕ) → Option (List ℕ) → Type 0
PrintsInputsAs true graph most old new = PrintsInputRecords graph.states graph.utf8 most old new
PrintsInputsAs false graph most old new = PrintsInputs graph.states graph.utf8 most old new

-- A file has a requested lexer, and the verdict on the lexer `first` and on that lexer was written
-- to standard output.
pub record ComparesTo (order : OrderValue) (first : GraphValue) (path : List ℕ) (other : SourceValue) (agreement : Agreement) (old new : Option (List ℕ)) : Type 0 where
  pub second : GraphValue
  pub of_second : IsLexerIn other.text (name_in order) second
  pub verdict : PrintsVerdict first second path other.path (is_json order) agreement old new

-- Each of two files has a requested lexer, and the verdict on the two was written to standard
-- output.
pub record ComparesFiles (order : OrderValue) (file other : SourceValue) (agreement : Agreement) (old new : Option (List ℕ)) : Type 0 where
  pub first : GraphValue
  pub of_first : IsLexerIn file.text (name_in order) first
  pub compared : ComparesTo order first file.path other agreement old new

-- A text has a requested lexer, and the matches of its leaves in an input were written.
pub record ShowsMatchesOf (order : OrderValue) (text input : List ℕ) (location : Location) (old new : Option (List ℕ)) : Type 0 where
  pub graph : GraphValue
  pub of_text : IsLexerIn text (name_in order) graph
  pub printed : PrintsMatchesAs (is_json order) graph of_text.code input location old new

-- A text has a requested lexer, and inputs that take all edges of its graph were written.
pub record ShowsInputsOf (order : OrderValue) (text : List ℕ) (most : ℕ) (old new : Option (List ℕ)) : Type 0 where
  pub graph : GraphValue
  pub of_text : IsLexerIn text (name_in order) graph
  pub printed : PrintsInputsAs (is_json order) graph most old new

module _ {F : Type 0} (yields : F → List ℕ → List ℕ → F → Type 0) where
  -- The question about a file is answered. Nothing is claimed about answers on leaves, items,
  -- examples, pages and diagrams.
  abbrev pub AnswersAbout : OrderValue → QuestionValue → SourceValue → F → F → Agreement → Option (List ℕ) → Option (List ℕ) → Type 0
  AnswersAbout order (comparison other) file files after agreement old new =
      Reads yields files other (λ text read. (after ≡ read) × ComparesFiles order file (record { path = other; text = text }) agreement old new)
  AnswersAbout order (matches input location) file files after agreement old new =
      (agreement ≡ Same) × Reads yields files input (λ bytes read. (after ≡ read) × ShowsMatchesOf order file.text bytes location old new)
  AnswersAbout order (inputs most) file files after agreement old new = (agreement ≡ Same) × (after ≡ files) × ShowsInputsOf order file.text most old new
  AnswersAbout order leaves file files after agreement old new = agreement ≡ Same
  AnswersAbout order (items input) file files after agreement old new = agreement ≡ Same
  AnswersAbout order examples file files after agreement old new = agreement ≡ Same
  AnswersAbout order (page to input) file files after agreement old new = agreement ≡ Same
  AnswersAbout order diagram file files after agreement old new = agreement ≡ Same

  -- The file is read, and the question about it is answered.
  abbrev pub Answers : OrderValue → F → F → Agreement → Option (List ℕ) → Option (List ℕ) → Type 0
  Answers order files after agreement old new =
      Reads yields files order.file (λ text read. AnswersAbout order order.question (record { path = order.file; text = text }) read after agreement old new)

  -- A stored answer is read, and compared with the answer to the question, which is not written.
  abbrev pub Expects : OrderValue → List ℕ → F → F → Agreement → Option (List ℕ) → Option (List ℕ) → Type 0
  Expects order path files after agreement old new =
      Reads yields files path (λ stored read. (made : List ℕ) × (outcome : Agreement) × Answers order read after outcome (Some []) (Some made) × PrintsAgreement path stored made agreement old new)

  -- The answer is written, or compared with the stored one, if one is given.
  abbrev pub AnswersOrExpects : Option (List ℕ) → OrderValue → F → F → Agreement → Option (List ℕ) → Option (List ℕ) → Type 0
  AnswersOrExpects None order files after agreement old new = Answers order files after agreement old new
  AnswersOrExpects (Some word) order files after agreement old new = Expects order (path_named word) files after agreement old new

  -- The request is fulfilled, with this outcome of its comparison, if it has one.
  abbrev pub IsFulfilled : Requested → F → F → Agreement → Option (List ℕ) → Option (List ℕ) → Type 0
  IsFulfilled requests_help files after agreement old new = agreement ≡ Same
  IsFulfilled requests_version files after agreement old new = agreement ≡ Same
  IsFulfilled (requests_showing order) files after agreement old new = AnswersOrExpects (expected_in order) order files after agreement old new
