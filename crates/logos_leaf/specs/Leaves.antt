-- The leaves of definitions, and their faults.
use Rattle.std.specs.Prelude.{◌≡◌, ℕ, ◌*◌, Bool, true, false, not, ◌&&◌, List, [], length, codes, Option, Some, None, unwrap_or, if◌then◌else◌}
use Rattle.std.specs.Option.{option_or}
use Rattle.std.specs.Str.{chars}
use Rattle.logos_lexeme.specs.declared.lexeme.Span.{Span}
use Rattle.logos_token.specs.declared.error.fault_code.FaultCode.TheVariants.{GreedyDot, PriorityOverflow}
use Rattle.logos_token.specs.Faults.{Fault}
use Rattle.logos_token.specs.Held.{Held, of_text, of_bytes}
use Rattle.logos_pattern.specs.Leaf.{KindValue}
use Rattle.logos_pattern.specs.declared.leaf.LeafOptions.{LeafOptions}
use Rattle.logos_pattern.specs.Escaping.{escaped_text, escaped_bytes}
use Rattle.logos_hir.specs.Hir.{literal_tree}
use Rattle.logos_hir.specs.Measure.{fitted, has_greedy_dot}
use Rattle.logos_hir.specs.Priority.{value}
use Rattle.logos_hir.specs.Tree.{Tree}
use Rattle.logos_attribute.specs.Callbacks.{CallbackView}
use Rattle.logos_attribute.specs.Reports.{Report, with_faults, without_faults, and_then, fault, only, IsReport}
use Rattle.logos_definition.specs.Definitions.{DefinitionView}
use Rattle.logos_leaf.specs.subpattern.PatternFaults.{Reading, spelled, broken, too_deep, Reads, pattern_faults}
use Rattle.logos_leaf.specs.subpattern.Substitution.{Stored, subst_report}
use Rattle.logos_leaf.specs.subpattern.Subpatterns.{pattern_text}

-- A leaf in contracts: the tree and the source of its pattern, its span, its priority, its kind,
-- its callback and its options.
pub record LeafView : Type 0 where
  pub is_token : Bool
  pub tree : Tree
  pub source : List ℕ
  pub span : Span
  pub priority : ℕ
  pub kind : KindValue
  pub callback : Option CallbackView
  pub options : LeafOptions

-- The bytes of a literal's value.
abbrev pub bytes_of : Held → List ℕ
bytes_of (of_text value) = value
bytes_of (of_bytes value) = value

-- The literal is a string, not a byte string.
abbrev pub is_string : Held → Bool
is_string (of_text value) = true
is_string (of_bytes value) = false

-- The text of a pattern that matches exactly the value of a literal.
abbrev pub escaped_of : Held → List ℕ
escaped_of (of_text value) = escaped_text true value
escaped_of (of_bytes value) = escaped_bytes true value

-- The options of a definition: `ignore(case)` and `allow_greedy = true`.
abbrev pub options_of : DefinitionView → LeafOptions
options_of d = record { ignores_case = d.ignore_case; allows_greedy = unwrap_or d.allow_greedy false }

-- The leaf of a definition, with this tree and this priority.
abbrev pub leaf_with : Bool → DefinitionView → KindValue → Tree → ℕ → LeafView
leaf_with is_token d kind tree priority = record {
  is_token = is_token;
  tree = tree;
  source = d.literal.token.text;
  span = d.literal.token.span;
  priority = priority;
  kind = kind;
  callback = d.callback;
  options = options_of d;
}

-- ---- `token`.

-- The priority of a `token`: the given one, or twice the number of bytes of its literal's value.
abbrev pub token_priority : DefinitionView → ℕ
token_priority d = unwrap_or d.priority (2 * length (bytes_of d.literal.held))

-- The leaf of a `token` with this tree.
abbrev pub token_leaf : DefinitionView → KindValue → Tree → LeafView
token_leaf d kind tree = leaf_with true d kind tree (token_priority d)

-- The report of a `token` whose letters match in either case, given the result of reading its text.
abbrev pub folded_report : DefinitionView → KindValue → Reading → Report (Option LeafView)
folded_report d kind (spelled tree) = without_faults (Some (token_leaf d kind tree))
folded_report d kind (broken cause detail) = with_faults None (pattern_faults d.literal.token.span (broken cause detail))
folded_report d kind too_deep = with_faults None (pattern_faults d.literal.token.span too_deep)

-- The report of a `token`. Its text is read as a pattern only if letters match in either case.
abbrev pub token_report : DefinitionView → KindValue → Reading → Report (Option LeafView)
token_report d kind reading =
    if d.ignore_case then folded_report d kind reading
    else without_faults (Some (token_leaf d kind (literal_tree (bytes_of d.literal.held))))

-- This is the leaf of a `token`, if it has one, and its faults are added to the list.
pub record IsTokenLeaf (d : DefinitionView) (kind : KindValue) (leaf : Option LeafView) (old new : List Fault) : Type 0 where
  pub reading : Reading
  pub reads : d.ignore_case ≡ true → Reads (is_string d.literal.held) true (chars (escaped_of d.literal.held)) reading
  pub reports : IsReport (token_report d kind reading) leaf old new

-- ---- `regex` and `skip`.

abbrev pub greedy_text : List ℕ
greedy_text = codes "This pattern contains an unbounded greedy dot repetition, i.e. `.*` or `.+` (or a character class that is equivalent to a dot, i.e., `[^\\n]*`). This will cause the entirety of the input to be read for every token. Consider making your repetition non-greedy or changing it to a more specific character class. If this is the intended behavior, add #[regex(..., allow_greedy = true)] or#[logos(skip(..., allow_greedy = true))]"

abbrev pub greedy_dot : Span → Fault
greedy_dot span = fault GreedyDot greedy_text span

abbrev pub priority_overflow : Span → Fault
priority_overflow span = fault PriorityOverflow (codes "the default priority is too large") span

-- The fault of a greedy dot, unless the definition allows it.
abbrev pub greedy_faults : DefinitionView → Tree → List Fault
greedy_faults d tree = if not (unwrap_or d.allow_greedy false) && has_greedy_dot tree then only (greedy_dot d.literal.token.span) else []

-- The report of a pattern with this priority, if it has one.
abbrev pub fitted_report : DefinitionView → KindValue → Tree → Option ℕ → Report (Option LeafView)
fitted_report d kind tree (Some priority) = without_faults (Some (leaf_with false d kind tree priority))
fitted_report d kind tree None = with_faults None (only (priority_overflow d.literal.token.span))

-- The priority of a `regex`: the given one, or the default of the tree if it fits.
abbrev pub regex_priority : DefinitionView → Tree → Option ℕ
regex_priority d tree = option_or d.priority (fitted (value tree))

-- The report of a pattern whose text spells this tree.
abbrev pub tree_report : DefinitionView → KindValue → Tree → Report (Option LeafView)
tree_report d kind tree = and_then (with_faults tree (greedy_faults d tree)) (λ t. fitted_report d kind t (regex_priority d t))

-- The report of a pattern, given the result of reading its text.
abbrev pub reading_report : DefinitionView → KindValue → Reading → Report (Option LeafView)
reading_report d kind (spelled tree) = tree_report d kind tree
reading_report d kind (broken cause detail) = with_faults None (pattern_faults d.literal.token.span (broken cause detail))
reading_report d kind too_deep = with_faults None (pattern_faults d.literal.token.span too_deep)

-- The report of a pattern, given its text with the subpatterns substituted, if all of them are
-- found.
abbrev pub text_report : DefinitionView → KindValue → Reading → Option (List ℕ) → Report (Option LeafView)
text_report d kind reading None = without_faults None
text_report d kind reading (Some text) = reading_report d kind reading

-- The text of a pattern with the subpatterns substituted, if all of them are found.
abbrev pub whole_report : DefinitionView → List Stored → Report (Option (List ℕ))
whole_report d names = subst_report names d.literal.token.span (chars (pattern_text d.literal.held))

-- The report of a `regex` or `skip`, given the result of reading its text.
abbrev pub regex_report : DefinitionView → KindValue → List Stored → Reading → Report (Option LeafView)
regex_report d kind names reading = and_then (whole_report d names) (text_report d kind reading)

-- This is the leaf of a `regex` or `skip`, if it has one, and its faults are added to the list.
-- `reading` is the result of reading its text, if all subpatterns are found.
pub record IsRegexLeaf (d : DefinitionView) (kind : KindValue) (names : List Stored) (leaf : Option LeafView) (old new : List Fault) : Type 0 where
  pub reading : Reading
  pub reads : (text : List ℕ) → (whole_report d names).value ≡ Some text → Reads (is_string d.literal.held) d.ignore_case (chars text) reading
  pub reports : IsReport (regex_report d kind names reading) leaf old new
