-- The literals and the callbacks of definitions occur in the tokens of their attributes.
use Rattle.std.proofs.Common.{◌≡◌, ◌==◌, Bool, true, false, List, [], ◌∷◌, ◌++◌, Option, Some, None, if◌then◌else◌, codes, sym, subst, option_map}
use Rattle.std.specs.Str.{bytes_eq}
use Rattle.logos_token.specs.Faults.{Fault}
use Rattle.logos_token.specs.Held.{Held, of_text, of_bytes}
use Rattle.logos_token.specs.Tokens.{TokenList, identifier, punctuation, literal, doc, group, none, also, run_span}
use Rattle.logos_token.specs.PrintedAgain.{IsRunOf}
use Rattle.logos_token.proofs.reading.SpanLemmas.{Each}
use Rattle.logos_enum.specs.AttributeValues.{AttributeValue}
use Rattle.logos_attribute.specs.Callbacks.{CallbackView}
use Rattle.logos_attribute.specs.Literals.{LiteralView, text_report, string_in, literal_report}
use Rattle.logos_attribute.specs.Pieces.{PieceValue, assigned, beside, grouped, keyed, Piece, unnamed, named, unexpected, pieces, up_to_comma, after_comma}
use Rattle.logos_attribute.specs.Reports.{Report, with_faults, map_report, only}
use Rattle.logos_attribute.specs.Slices.{Slice}
use Rattle.logos_attribute.specs.Values.{boolean_in}
use Rattle.logos_definition.specs.Arguments.{ReadsError, alone, with_arguments, without_type, ReadsType, is_given, other_form, ReadsPiece, on_error, on_type, on_other, without_name, no_argument, ReadsPieces, no_piece, one_more, ends}
use Rattle.logos_definition.specs.Attributes.{arguments_report as meta_arguments, meta_report, ReadsMeta, no_arguments, with_arguments as of_arguments, ReadsAttribute, other_name, a_logos}
use Rattle.logos_definition.specs.Definitions.{DefinitionView, plain, priority_report, greedy_report, ignore_report, with_callback, named_callback, unnamed_callback, unknown_nested, named_report, argument_report, arguments_report, definition_after, definition_report}
use Rattle.logos_definition.specs.Metas.{Meta, after_name, colon, meta_inside, inside_meta, meta_of}
use Rattle.logos_definition.specs.OptionFaults.{utf8_twice, utf8_value, source_old, unknown_logos}
use Rattle.logos_definition.specs.Options.{OptionsView, skip_plain, skip_whole, skip_report, mode_set, utf8_report, extras_report, crate_report, path_report, held_path, export_report, subpattern_set, subpattern_report, error_set, error_report, option_report}
use Rattle.logos_laws.proofs.spans.TokenParts.{Part, part_rest, part_inside}
use Rattle.logos_laws.proofs.spans.HeadParts.{IfRun}
use Rattle.logos_laws.proofs.spans.PieceParts.{up_to_comma_part, after_comma_part, ValueParts, PieceParts, pieces_parts, CallbackParts, callback_report_parts, callback_set_parts, LiteralParts, IfLiteral, text_report_parts, literal_report_parts}

-- the literal of a definition, and its callback if it has one, occur in these tokens
pub record DefinitionParts (tokens : TokenList) (d : DefinitionView) : Type 0 where
  pub literal : LiteralParts tokens d.literal
  pub callback : CallbackParts tokens d.callback

abbrev pub IfDefinition : TokenList → Option DefinitionView → Type 0
IfDefinition tokens None = Unit {0}
IfDefinition tokens (Some d) = DefinitionParts tokens d

definition_if : (tokens : TokenList) (b : Bool) (one other : Report DefinitionView) → DefinitionParts tokens one.value → DefinitionParts tokens other.value → DefinitionParts tokens (if b then one else other).value
definition_if tokens true one other p q = p
definition_if tokens false one other p q = q

priority_parts : (tokens : TokenList) (name : Slice) (value : PieceValue) (d : DefinitionView) → DefinitionParts tokens d → DefinitionParts tokens (priority_report name value d).value
priority_parts tokens name (assigned run) d p = record { literal = p.literal; callback = p.callback }
priority_parts tokens name (beside text) d p = p
priority_parts tokens name (grouped run) d p = p
priority_parts tokens name (keyed second run) d p = p

greedy_parts : (tokens : TokenList) (name : Slice) (value : PieceValue) (d : DefinitionView) → DefinitionParts tokens d → DefinitionParts tokens (greedy_report name value d).value
greedy_parts tokens name (assigned run) d p = record { literal = p.literal; callback = p.callback }
greedy_parts tokens name (beside text) d p = p
greedy_parts tokens name (grouped run) d p = p
greedy_parts tokens name (keyed second run) d p = p

ignore_parts : (tokens : TokenList) (name : Slice) (value : PieceValue) (d : DefinitionView) → DefinitionParts tokens d → DefinitionParts tokens (ignore_report name value d).value
ignore_parts tokens name (assigned run) d p = p
ignore_parts tokens name (beside text) d p = p
ignore_parts tokens name (grouped run) d p = record { literal = p.literal; callback = p.callback }
ignore_parts tokens name (keyed second run) d p = p

named_callback_parts : (tokens : TokenList) (name : Slice) (value : PieceValue) (former : Option CallbackView) → ValueParts tokens value → CallbackParts tokens former → CallbackParts tokens (named_callback name value former).value
named_callback_parts tokens name (assigned run) former v f = callback_set_parts tokens name run former v f
named_callback_parts tokens name (beside text) former v f = f
named_callback_parts tokens name (grouped run) former v f = f
named_callback_parts tokens name (keyed second run) former v f = f

unnamed_callback_parts : (tokens : TokenList) (first : Bool) (run : TokenList) (former : Option CallbackView) → IsRunOf run tokens → CallbackParts tokens former → CallbackParts tokens (unnamed_callback first run former).value
unnamed_callback_parts tokens true run former r f = callback_report_parts tokens run r
unnamed_callback_parts tokens false run former r f = f

named_parts : (tokens : TokenList) (name : Slice) (value : PieceValue) (d : DefinitionView) → ValueParts tokens value → DefinitionParts tokens d → DefinitionParts tokens (named_report name value d).value
named_parts tokens name value d v p =
    let others = with_faults d (only (unknown_nested name)) in
    let greedy = if bytes_eq name.text (codes "allow_greedy") then greedy_report name value d else others in
    let ignore = if bytes_eq name.text (codes "ignore") then ignore_report name value d else greedy in
    let callback = map_report (with_callback d) (named_callback name value d.callback) in
    let named_by = if bytes_eq name.text (codes "callback") then callback else ignore in
    let called : DefinitionParts tokens callback.value = record { literal = p.literal; callback = named_callback_parts tokens name value d.callback v p.callback } in
    definition_if tokens (bytes_eq name.text (codes "priority")) (priority_report name value d) named_by (priority_parts tokens name value d p)
    (definition_if tokens (bytes_eq name.text (codes "callback")) callback ignore called
    (definition_if tokens (bytes_eq name.text (codes "ignore")) (ignore_report name value d) greedy (ignore_parts tokens name value d p)
    (definition_if tokens (bytes_eq name.text (codes "allow_greedy")) (greedy_report name value d) others (greedy_parts tokens name value d p) p)))

argument_parts : (tokens : TokenList) (first : Bool) (piece : Piece) (d : DefinitionView) → PieceParts tokens piece → DefinitionParts tokens d → DefinitionParts tokens (argument_report first piece d).value
argument_parts tokens first (unexpected run) d r p = p
argument_parts tokens first (unnamed run) d r p = record { literal = p.literal; callback = unnamed_callback_parts tokens first run d.callback r p.callback }
argument_parts tokens first (named name value) d r p = named_parts tokens name value d r p

arguments_parts : (tokens : TokenList) (first : Bool) (list : List Piece) (d : DefinitionView) → Each (PieceParts tokens) list → DefinitionParts tokens d → DefinitionParts tokens (arguments_report first list d).value
arguments_parts tokens first [] d e p = p
arguments_parts tokens first (piece ∷ rest) d e p = arguments_parts tokens false rest (argument_report first piece d).value e.1 (argument_parts tokens first piece d e.0 p)

after_parts : (tokens rest : TokenList) (view : Option LiteralView) → IsRunOf rest tokens → IfLiteral tokens view → IfDefinition tokens (definition_after rest view).value
after_parts tokens rest None r l = tt
after_parts tokens rest (Some view) r l = arguments_parts tokens true (pieces rest) (plain view) (pieces_parts tokens rest r) (record { literal = l; callback = tt })

pub definition_parts : (tokens run : TokenList) → IsRunOf run tokens → IfDefinition tokens (definition_report run).value
definition_parts tokens run r =
    after_parts tokens (after_comma run) (literal_report (up_to_comma run)).value (after_comma_part tokens run r) (literal_report_parts tokens (up_to_comma run) (up_to_comma_part tokens run r))

-- ---- Attributes.

-- the arguments of an attribute are a run of the whole
abbrev IfMeta : TokenList → Option Meta → Type 0
IfMeta tokens None = Unit {0}
IfMeta tokens (Some meta) = IfRun (Part tokens) meta.arguments

meta_if : (tokens : TokenList) (b : Bool) (one other : Option Meta) → IfMeta tokens one → IfMeta tokens other → IfMeta tokens (if b then one else other)
meta_if tokens true one other p q = p
meta_if tokens false one other p q = q

after_name_parts : (tokens : TokenList) (name : Slice) (run : TokenList) → IsRunOf run tokens → IfMeta tokens (after_name name run)
after_name_parts tokens name none r = tt
after_name_parts tokens name (also (identifier text span) rest) r = tt
after_name_parts tokens name (also (punctuation character spacing span) rest) r =
    meta_if tokens (character == colon) None (Some (record { name = name; arguments = None })) tt tt
after_name_parts tokens name (also (literal text span) rest) r = tt
after_name_parts tokens name (also (doc text span) rest) r = tt
after_name_parts tokens name (also (group delimiter span inside) rest) r = part_inside delimiter span inside rest r

inside_parts : (tokens run : TokenList) → IsRunOf run tokens → IfMeta tokens (meta_inside run)
inside_parts tokens none r = tt
inside_parts tokens (also (identifier text span) rest) r = after_name_parts tokens (record { text = text; span = span }) rest (part_rest _ rest r)
inside_parts tokens (also (punctuation character spacing span) rest) r = tt
inside_parts tokens (also (literal text span) rest) r = tt
inside_parts tokens (also (doc text span) rest) r = tt
inside_parts tokens (also (group delimiter span inside) rest) r = tt

meta_parts : (tokens : TokenList) (inside : Option TokenList) → IfRun (Part tokens) inside → IfMeta tokens (inside_meta inside)
meta_parts tokens None r = tt
meta_parts tokens (Some run) r = inside_parts tokens run r

meta_report_parts : (tokens : TokenList) (meta : Option Meta) → IfMeta tokens meta → IfDefinition tokens (meta_report meta).value
meta_report_parts tokens None m = tt
meta_report_parts tokens (Some meta) m = go meta.arguments m
  where
    go : (arguments : Option TokenList) → IfRun (Part tokens) arguments → IfDefinition tokens (meta_arguments arguments).value
    go None a = tt
    go (Some run) a = definition_parts tokens run a

-- the definition that an attribute has
pub attribute_definition : (tokens : TokenList) (attribute : AttributeValue) → IfRun (Part tokens) attribute.inside → IfDefinition tokens (meta_report (meta_of attribute)).value
attribute_definition tokens attribute r = meta_report_parts tokens (meta_of attribute) (meta_parts tokens attribute.inside r)

-- ---- Options.

-- the skips of options occur in these tokens
abbrev pub SkipParts : TokenList → OptionsView → Type 0
SkipParts tokens o = Each (DefinitionParts tokens) o.skips

each_more : (tokens : TokenList) (list : List DefinitionView) (d : DefinitionView) → Each (DefinitionParts tokens) list → DefinitionParts tokens d → Each (DefinitionParts tokens) (list ++ d ∷ [])
each_more tokens [] d e p = (p, tt)
each_more tokens (first ∷ rest) d e p = (e.0, each_more tokens rest d e.1 p)

options_if : (tokens : TokenList) (b : Bool) (one other : Report OptionsView) → SkipParts tokens one.value → SkipParts tokens other.value → SkipParts tokens (if b then one else other).value
options_if tokens true one other p q = p
options_if tokens false one other p q = q

skip_plain_parts : (tokens : TokenList) (o : OptionsView) (view : Option LiteralView) → SkipParts tokens o → IfLiteral tokens view → SkipParts tokens (skip_plain o view)
skip_plain_parts tokens o None p l = p
skip_plain_parts tokens o (Some view) p l = each_more tokens o.skips (plain view) p (record { literal = l; callback = tt })

skip_whole_parts : (tokens run : TokenList) (o : OptionsView) (definition : Option DefinitionView) → SkipParts tokens o → IfDefinition tokens definition → SkipParts tokens (skip_whole run o definition).value
skip_whole_parts tokens run o None p d = p
skip_whole_parts tokens run o (Some definition) p d = each_more tokens o.skips definition p d

skip_parts : (tokens : TokenList) (name : Slice) (value : PieceValue) (o : OptionsView) → ValueParts tokens value → SkipParts tokens o → SkipParts tokens (skip_report name value o).value
skip_parts tokens name (assigned run) o v p = p
skip_parts tokens name (beside text) o v p = skip_plain_parts tokens o (text_report text).value p (text_report_parts tokens text v)
skip_parts tokens name (grouped run) o v p = skip_whole_parts tokens run o (definition_report run).value p (definition_parts tokens run v)
skip_parts tokens name (keyed second run) o v p = p

-- the report of `utf8 = run`, by the value that is read
abbrev mode_by : TokenList → OptionsView → Option Bool → Report OptionsView
mode_by run o read = elim read [
  | Some value ↦ with_faults (record o { utf8 = Some (record { value = value; span = run_span run }) }) (utf8_twice (run_span run) (option_map (λ m. m.span) o.utf8))
  | None ↦ with_faults o (only (utf8_value run))
]

mode_by_parts : (tokens run : TokenList) (o : OptionsView) (read : Option Bool) → SkipParts tokens o → SkipParts tokens (mode_by run o read).value
mode_by_parts tokens run o (Some value) p = p
mode_by_parts tokens run o None p = p

mode_parts : (tokens run : TokenList) (o : OptionsView) → SkipParts tokens o → SkipParts tokens (mode_set run o).value
mode_parts tokens run o p = mode_by_parts tokens run o (boolean_in run) p

utf8_parts : (tokens : TokenList) (name : Slice) (value : PieceValue) (o : OptionsView) → SkipParts tokens o → SkipParts tokens (utf8_report name value o).value
utf8_parts tokens name (assigned run) o p = mode_parts tokens run o p
utf8_parts tokens name (beside text) o p = p
utf8_parts tokens name (grouped run) o p = p
utf8_parts tokens name (keyed second run) o p = p

extras_parts : (tokens : TokenList) (name : Slice) (value : PieceValue) (o : OptionsView) → SkipParts tokens o → SkipParts tokens (extras_report name value o).value
extras_parts tokens name (assigned run) o p = p
extras_parts tokens name (beside text) o p = p
extras_parts tokens name (grouped run) o p = p
extras_parts tokens name (keyed second run) o p = p

crate_parts : (tokens : TokenList) (name : Slice) (value : PieceValue) (o : OptionsView) → SkipParts tokens o → SkipParts tokens (crate_report name value o).value
crate_parts tokens name (assigned run) o p = p
crate_parts tokens name (beside text) o p = p
crate_parts tokens name (grouped run) o p = p
crate_parts tokens name (keyed second run) o p = p

held_parts : (tokens run : TokenList) (o : OptionsView) (held : Held) → SkipParts tokens o → SkipParts tokens (held_path run o held).value
held_parts tokens run o (of_text path) p = p
held_parts tokens run o (of_bytes bytes) p = p

path_parts : (tokens run : TokenList) (o : OptionsView) (view : Option LiteralView) → SkipParts tokens o → SkipParts tokens (path_report run o view).value
path_parts tokens run o None p = p
path_parts tokens run o (Some view) p = held_parts tokens run o view.held p

export_parts : (tokens : TokenList) (name : Slice) (value : PieceValue) (o : OptionsView) → SkipParts tokens o → SkipParts tokens (export_report name value o).value
export_parts tokens name (assigned run) o p = path_parts tokens run o (string_in run) p
export_parts tokens name (beside text) o p = p
export_parts tokens name (grouped run) o p = p
export_parts tokens name (keyed second run) o p = p

subpattern_set_parts : (tokens : TokenList) (name : Slice) (run : TokenList) (o : OptionsView) (view : Option LiteralView) → SkipParts tokens o → SkipParts tokens (subpattern_set name run o view).value
subpattern_set_parts tokens name run o None p = p
subpattern_set_parts tokens name run o (Some view) p = p

subpattern_parts : (tokens : TokenList) (name : Slice) (value : PieceValue) (o : OptionsView) → SkipParts tokens o → SkipParts tokens (subpattern_report name value o).value
subpattern_parts tokens name (assigned run) o p = p
subpattern_parts tokens name (beside text) o p = p
subpattern_parts tokens name (grouped run) o p = p
subpattern_parts tokens name (keyed second run) o p = subpattern_set_parts tokens second run o (string_in run) p

error_parts : (tokens : TokenList) (name : Slice) (value : PieceValue) (o : OptionsView) → SkipParts tokens o → SkipParts tokens (error_report name value o).value
error_parts tokens name (assigned run) o p = p
error_parts tokens name (beside text) o p = p
error_parts tokens name (grouped run) o p = p
error_parts tokens name (keyed second run) o p = p

option_parts : (tokens : TokenList) (name : Slice) (value : PieceValue) (o : OptionsView) → ValueParts tokens value → SkipParts tokens o → SkipParts tokens (option_report name value o).value
option_parts tokens name value o v p =
    let source = if bytes_eq name.text (codes "source") then with_faults o (only (source_old name)) else with_faults o (only (unknown_logos name)) in
    let path = if bytes_eq name.text (codes "crate") then crate_report name value o else source in
    let extras = if bytes_eq name.text (codes "extras") then extras_report name value o else path in
    let setting = if bytes_eq name.text (codes "utf8") then utf8_report name value o else extras in
    let export = if bytes_eq name.text (codes "export_dir") then export_report name value o else setting in
    let subpattern = if bytes_eq name.text (codes "subpattern") then subpattern_report name value o else export in
    options_if tokens (bytes_eq name.text (codes "skip")) (skip_report name value o) subpattern (skip_parts tokens name value o v p)
    (options_if tokens (bytes_eq name.text (codes "subpattern")) (subpattern_report name value o) export (subpattern_parts tokens name value o p)
    (options_if tokens (bytes_eq name.text (codes "export_dir")) (export_report name value o) setting (export_parts tokens name value o p)
    (options_if tokens (bytes_eq name.text (codes "utf8")) (utf8_report name value o) extras (utf8_parts tokens name value o p)
    (options_if tokens (bytes_eq name.text (codes "extras")) (extras_report name value o) path (extras_parts tokens name value o p)
    (options_if tokens (bytes_eq name.text (codes "crate")) (crate_report name value o) source (crate_parts tokens name value o p)
    (options_if tokens (bytes_eq name.text (codes "source")) (with_faults o (only (source_old name))) (with_faults o (only (unknown_logos name))) p p))))))

-- ---- The arguments of `#[logos(..)]`, and the attributes of an enum.

-- the options of a report
same_options : (tokens : TokenList) (o new : OptionsView) → new ≡ o → SkipParts tokens o → SkipParts tokens new
same_options tokens o new e p = subst (SkipParts tokens) (sym e) p

reads_error : (tokens : TokenList) {name : Slice} {o : OptionsView} {o' : OptionsView} {old new : List Fault} {value : PieceValue} {continues : Bool} →
    ReadsError name o o' old new value continues → SkipParts tokens o → SkipParts tokens o'
reads_error tokens {name} {o} {o'} (alone {value = value} g t) p = same_options tokens (error_report name value o).value o' t.0 (error_parts tokens name value o p)
reads_error tokens {name} {o} {o'} (with_arguments {group = run} {error = error} g t) p = same_options tokens (error_set run error o).value o' t.0 p
reads_error tokens {name} {o} {o'} (without_type g e) p = same_options tokens o o' e p

reads_type : (tokens : TokenList) {name : Slice} {o : OptionsView} {o' : OptionsView} {old new : List Fault} {value : PieceValue} → ReadsType name o o' old new value → SkipParts tokens o → SkipParts tokens o'
reads_type tokens {name} {o} {o'} (is_given s e) p = same_options tokens _ o' e p
reads_type tokens {name} {o} {o'} (other_form k t) p = same_options tokens o o' t.0 p

reads_piece : (tokens : TokenList) {o : OptionsView} {o' : OptionsView} {old new : List Fault} {piece : Piece} {continues : Bool} →
    ReadsPiece o o' old new piece continues → PieceParts tokens piece → SkipParts tokens o → SkipParts tokens o'
reads_piece tokens (on_error b s) v p = reads_error tokens s p
reads_piece tokens (on_type b c s) v p = reads_type tokens s p
reads_piece tokens {o} {o'} (on_other {name = name} {value = value} b c t) v p = same_options tokens (option_report name value o).value o' t.0 (option_parts tokens name value o v p)
reads_piece tokens {o} {o'} (without_name t) v p = same_options tokens o o' t.0 p
reads_piece tokens {o} {o'} (no_argument t) v p = same_options tokens o o' t.0 p

reads_pieces : (tokens : TokenList) {o : OptionsView} {o' : OptionsView} {old new : List Fault} {list : List Piece} →
    ReadsPieces o o' old new list → Each (PieceParts tokens) list → SkipParts tokens o → SkipParts tokens o'
reads_pieces tokens no_piece e p = p
reads_pieces tokens (one_more s rest) e p = reads_pieces tokens rest e.1 (reads_piece tokens s e.0 p)
reads_pieces tokens (ends s) e p = reads_piece tokens s e.0 p

reads_meta : (tokens : TokenList) {o : OptionsView} {o' : OptionsView} {old new : List Fault} (meta : Meta) (attribute : AttributeValue) →
    ReadsMeta o o' old new meta attribute.span → IfRun (Part tokens) meta.arguments → SkipParts tokens o → SkipParts tokens o'
reads_meta tokens {o} {o'} meta attribute (no_arguments n e f) m p = same_options tokens o o' e p
reads_meta tokens meta attribute (of_arguments {run = run} a s) m p =
    let r : IfRun (Part tokens) (Some run) = subst (IfRun (Part tokens)) a m in reads_pieces tokens s (pieces_parts tokens run r) p

pub reads_attribute : (tokens : TokenList) {o : OptionsView} {o' : OptionsView} {old new : List Fault} (attribute : AttributeValue) →
    ReadsAttribute o o' old new attribute → IfRun (Part tokens) attribute.inside → SkipParts tokens o → SkipParts tokens o'
reads_attribute tokens {o} {o'} attribute (other_name n e f) r p = same_options tokens o o' e p
reads_attribute tokens attribute (a_logos {meta = meta} e b s) r p =
    let m : IfMeta tokens (Some meta) = subst (IfMeta tokens) e (meta_parts tokens attribute.inside r) in reads_meta tokens meta attribute s m p
