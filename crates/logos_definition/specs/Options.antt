-- The options of a lexer: the arguments of `#[logos(..)]`.
use Rattle.std.specs.Prelude.{ℕ, Bool, true, false, List, [], ◌∷◌, ◌++◌, codes, Option, Some, None, unwrap_or, option_map, if◌then◌else◌}
use Rattle.std.specs.Str.{bytes_eq}
use Rattle.logos_lexeme.specs.declared.lexeme.Span.{Span}
use Rattle.logos_token.specs.Held.{Held, of_text, of_bytes}
use Rattle.logos_token.specs.Tokens.{TokenList, run_span}
use Rattle.logos_attribute.specs.Slices.{Slice}
use Rattle.logos_attribute.specs.Pieces.{PieceValue, assigned, beside, grouped, keyed}
use Rattle.logos_attribute.specs.Reports.{Report, with_faults, without_faults, and_then, map_report, only}
use Rattle.logos_attribute.specs.Values.{boolean_in}
use Rattle.logos_attribute.specs.Literals.{LiteralView, NamedLiteral, literal_syntax, text_report, string_in}
use Rattle.logos_type_params.specs.TypeParams.{Value}
use Rattle.logos_definition.specs.Definitions.{DefinitionView, plain, definition_report}
use Rattle.logos_definition.specs.ErrorTypes.{ErrorView, error_span, error_alone}
use Rattle.logos_definition.specs.OptionFaults.{utf8_twice, extras_twice, error_twice, export_twice, skip_form, skip_group, utf8_value, utf8_form, extras_form, crate_form, export_bytes, export_form, subpattern_form, error_form, source_old, unknown_logos}

-- The UTF-8 mode: whether inputs are UTF-8, and the span of that value in the source.
pub record ModeView : Type 0 where
  pub value : Bool
  pub span : Span

-- The path of the exported state diagram, and its span in the source.
pub record ExportView : Type 0 where
  pub path : List ℕ
  pub span : Span

-- The options that have been read.
pub record OptionsView : Type 0 where
  pub utf8 : Option ModeView
  pub skips : List DefinitionView
  pub extras : Option TokenList
  pub subpatterns : List NamedLiteral
  pub error_type : Option ErrorView
  pub logos_path : Option TokenList
  pub export_path : Option ExportView
  pub types : Value

-- Inputs are UTF-8, unless the option `utf8` is `false`.
abbrev pub utf8_mode : OptionsView → Bool
utf8_mode o = unwrap_or (option_map (λ m. m.value) o.utf8) true

-- The options before an attribute is read.
abbrev pub no_options : OptionsView
no_options = record { utf8 = None; skips = []; extras = None; subpatterns = []; error_type = None; logos_path = None; export_path = None; types = record { names = []; types = []; lifetime = false } }

-- The options with one more definition of `skip`.
abbrev pub more_skips : OptionsView → DefinitionView → OptionsView
more_skips o definition = record o { skips = o.skips ++ definition ∷ [] }

-- The options with the definition of `skip "..."` added, if its literal is a string or byte string.
abbrev pub skip_plain : OptionsView → Option LiteralView → OptionsView
skip_plain o None = o
skip_plain o (Some literal) = more_skips o (plain literal)

-- The report of `skip(..)`, given its definition if it has one.
abbrev pub skip_whole : TokenList → OptionsView → Option DefinitionView → Report OptionsView
skip_whole run o None = with_faults o (only (skip_group run))
skip_whole run o (Some definition) = without_faults (more_skips o definition)

-- The report of `skip`.
abbrev pub skip_report : Slice → PieceValue → OptionsView → Report OptionsView
skip_report name (beside text) o = map_report (skip_plain o) (text_report text)
skip_report name (grouped run) o = and_then (definition_report run) (skip_whole run o)
skip_report name value o = with_faults o (only (skip_form name))

-- The report of `utf8 = run`.
abbrev pub mode_set : TokenList → OptionsView → Report OptionsView
mode_set run o = elim (boolean_in run) [
  | Some value ↦ with_faults (record o { utf8 = Some (record { value = value; span = run_span run }) }) (utf8_twice (run_span run) (option_map (λ m. m.span) o.utf8))
  | None ↦ with_faults o (only (utf8_value run))
]

-- The report of `utf8`.
abbrev pub utf8_report : Slice → PieceValue → OptionsView → Report OptionsView
utf8_report name (assigned run) o = mode_set run o
utf8_report name value o = with_faults o (only (utf8_form name))

-- The report of `extras = run`.
abbrev pub extras_set : TokenList → OptionsView → Report OptionsView
extras_set run o = with_faults (record o { extras = Some run }) (extras_twice (run_span run) (option_map run_span o.extras))

-- The report of `extras`.
abbrev pub extras_report : Slice → PieceValue → OptionsView → Report OptionsView
extras_report name (assigned run) o = extras_set run o
extras_report name value o = with_faults o (only (extras_form name))

-- The report of `crate`. The last path replaces the former ones, without a fault.
abbrev pub crate_report : Slice → PieceValue → OptionsView → Report OptionsView
crate_report name (assigned run) o = without_faults (record o { logos_path = Some run })
crate_report name value o = with_faults o (only (crate_form name))

-- The report of `export_dir = run`, given the path.
abbrev pub path_set : TokenList → List ℕ → OptionsView → Report OptionsView
path_set run path o = with_faults (record o { export_path = Some (record { path = path; span = run_span run }) }) (export_twice (run_span run) (option_map (λ e. e.span) o.export_path))

-- The report of `export_dir = run`, given the value of the literal.
abbrev pub held_path : TokenList → OptionsView → Held → Report OptionsView
held_path run o (of_text path) = path_set run path o
held_path run o (of_bytes bytes) = with_faults o (only (export_bytes run))

-- The report of `export_dir = run`, given the literal if the run is one.
abbrev pub path_report : TokenList → OptionsView → Option LiteralView → Report OptionsView
path_report run o (Some literal) = held_path run o literal.held
path_report run o None = with_faults o (only (literal_syntax run))

-- The report of `export_dir`.
abbrev pub export_report : Slice → PieceValue → OptionsView → Report OptionsView
export_report name (assigned run) o = path_report run o (string_in run)
export_report name value o = with_faults o (only (export_form name))

-- The report of `subpattern name = run`, given the literal if the run is one.
abbrev pub subpattern_set : Slice → TokenList → OptionsView → Option LiteralView → Report OptionsView
subpattern_set name run o (Some literal) = without_faults (record o { subpatterns = o.subpatterns ++ (record { name = name; literal = literal }) ∷ [] })
subpattern_set name run o None = with_faults o (only (literal_syntax run))

-- The report of `subpattern`.
abbrev pub subpattern_report : Slice → PieceValue → OptionsView → Report OptionsView
subpattern_report name (keyed second run) o = subpattern_set second run o (string_in run)
subpattern_report name value o = with_faults o (only (subpattern_form name))

-- The report of an error type after former options.
abbrev pub error_set : TokenList → ErrorView → OptionsView → Report OptionsView
error_set run error o = with_faults (record o { error_type = Some error }) (error_twice (run_span run) (option_map error_span o.error_type))

-- The report of `error = run`.
abbrev pub error_report : Slice → PieceValue → OptionsView → Report OptionsView
error_report name (assigned run) o = error_set run (error_alone run) o
error_report name value o = with_faults o (only (error_form name))

-- The report of `utf8`, `extras` or `crate`, and of `source` and unknown names.
abbrev pub setting_report : Slice → PieceValue → OptionsView → Report OptionsView
setting_report name value o =
    if bytes_eq name.text (codes "utf8") then utf8_report name value o
    else (if bytes_eq name.text (codes "extras") then extras_report name value o
    else (if bytes_eq name.text (codes "crate") then crate_report name value o
    else (if bytes_eq name.text (codes "source") then with_faults o (only (source_old name))
    else with_faults o (only (unknown_logos name)))))

-- The report of a named argument other than `error` and `type`.
abbrev pub option_report : Slice → PieceValue → OptionsView → Report OptionsView
option_report name value o =
    if bytes_eq name.text (codes "skip") then skip_report name value o
    else (if bytes_eq name.text (codes "subpattern") then subpattern_report name value o
    else (if bytes_eq name.text (codes "export_dir") then export_report name value o
    else setting_report name value o))
