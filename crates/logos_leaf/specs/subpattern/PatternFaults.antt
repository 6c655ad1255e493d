-- The readings of texts as patterns, and their faults.
use Rattle.std.specs.Prelude.{◌≡◌, ℕ, ◌<◌, Bool, List, [], ◌++◌, codes, Option, Some, None, chars, drop, slice_get, unwrap_or}
use Rattle.std.specs.Fmt.{decimal}
use Rattle.logos_lexeme.specs.declared.lexeme.Span.{Span}
use Rattle.logos_token.specs.declared.error.fault_code.FaultCode.TheVariants.{Regex, LimitPatternNesting}
use Rattle.logos_token.specs.declared.error.detail.Detail.TheVariants.{Pattern}
use Rattle.logos_token.specs.declared.error.detail.PatternFront.{PatternFront}
use Rattle.logos_token.specs.declared.error.detail.PatternDetail.{PatternDetail}
use Rattle.logos_token.specs.declared.error.detail.PatternKind.{PatternKind}
use Rattle.logos_token.specs.declared.error.detail.PatternKind.TheVariants as details
use Rattle.logos_token.specs.Faults.{Fault}
use Rattle.logos_pattern_tokens.specs.declared.error.Kind.{Kind}
use Rattle.logos_pattern_tokens.specs.declared.error.Kind.TheVariants as kinds
use Rattle.logos_syntax.specs.Grammar.{IsFound, IsSpelled, first_flags}
use Rattle.logos_syntax.specs.Nesting.{IsTooDeep}
use Rattle.logos_pattern_tokens.specs.Token.{Text}
use Rattle.logos_hir.specs.Tree.{Tree}
use Rattle.logos_attribute.specs.Reports.{fault, fault_with, only}

-- The result of reading a text as a pattern.
pub data Reading : Type 0 where
  -- The text spells this tree.
  spelled : (tree : Tree) → Reading
  -- The text spells no tree. The definition leaves open the kind and the location of the fault.
  broken : (kind : Kind) (detail : PatternDetail) → Reading
  -- The text spells no tree within the limit, and a prefix of it is nested more deeply.
  too_deep : Reading

-- The text spells no tree within the nesting limit, and a prefix of it is nested more deeply.
pub record PassesNesting (unicode ignore_case : Bool) (text : Text) : Type 0 where
  pub deeper : (depth : ℕ) → IsSpelled (first_flags unicode ignore_case) text depth → 250 < depth
  pub begins : IsTooDeep (first_flags unicode ignore_case) text

-- The kind of a fault as the details of faults name it.
abbrev pub detail_kind : Kind → PatternKind
detail_kind kinds.Unclosed = details.Unclosed
detail_kind kinds.Unopened = details.Unopened
detail_kind kinds.NothingToRepeat = details.NothingToRepeat
detail_kind kinds.CountSyntax = details.CountSyntax
detail_kind kinds.CountOrder = details.CountOrder
detail_kind kinds.CountTooLarge = details.CountTooLarge
detail_kind kinds.FlagUnsupported = details.FlagUnsupported
detail_kind kinds.FlagSyntax = details.FlagSyntax
detail_kind kinds.GroupSyntax = details.GroupSyntax
detail_kind kinds.EscapeUnknown = details.EscapeUnknown
detail_kind kinds.HexSyntax = details.HexSyntax
detail_kind kinds.HexNotScalar = details.HexNotScalar
detail_kind kinds.ClassRange = details.ClassRange
detail_kind kinds.UnknownProperty = details.UnknownProperty
detail_kind kinds.PropertyForm = details.PropertyForm
detail_kind kinds.NotInBytes = details.NotInBytes
detail_kind kinds.UnicodeWordBoundary = details.UnicodeWordBoundary
detail_kind kinds.WordBoundaryForm = details.WordBoundaryForm

-- The byte of a text at this offset, or 0 after its end.
abbrev pub byte_in : List ℕ → ℕ → ℕ
byte_in text at = unwrap_or (slice_get text at) 0

-- The first four bytes of a text, with 0 after its end.
abbrev pub front_in : List ℕ → PatternFront
front_in text = record { first = byte_in text 0; second = byte_in text 1; third = byte_in text 2; fourth = byte_in text 3 }

-- This is the detail of a fault of this kind in a text of these bytes.
pub record IsDetail (kind : Kind) (text : List ℕ) (detail : PatternDetail) : Type 0 where
  pub of_kind : detail.kind ≡ detail_kind kind
  pub front : detail.front ≡ front_in (drop detail.at text)

-- The text spells no tree with these flags, and this is the detail of a fault of this kind in its
-- bytes.
pub record IsBroken (unicode ignore_case : Bool) (text : Text) (kind : Kind) (detail : PatternDetail) : Type 0 where
  pub unspelled : (depth : ℕ) → IsSpelled (first_flags unicode ignore_case) text depth → ⊥
  pub bytes : List ℕ
  pub spells : chars bytes ≡ text
  pub known : IsDetail kind bytes detail

-- This is the result of reading the text with these flags.
abbrev pub Reads : (unicode ignore_case : Bool) → Text → Reading → Type 0
Reads unicode ignore_case text (spelled tree) = IsFound (first_flags unicode ignore_case) text tree
Reads unicode ignore_case text (broken kind detail) = IsBroken unicode ignore_case text kind detail
Reads unicode ignore_case text too_deep = PassesNesting unicode ignore_case text

-- The tree that the text spells, if it spells one.
abbrev pub tree_in : Reading → Option Tree
tree_in (spelled tree) = Some tree
tree_in (broken kind detail) = None
tree_in too_deep = None

-- The name of a kind of fault in messages.
abbrev pub kind_name : Kind → List ℕ
kind_name kinds.Unclosed = codes "Unclosed"
kind_name kinds.Unopened = codes "Unopened"
kind_name kinds.NothingToRepeat = codes "NothingToRepeat"
kind_name kinds.CountSyntax = codes "CountSyntax"
kind_name kinds.CountOrder = codes "CountOrder"
kind_name kinds.CountTooLarge = codes "CountTooLarge"
kind_name kinds.FlagUnsupported = codes "FlagUnsupported"
kind_name kinds.FlagSyntax = codes "FlagSyntax"
kind_name kinds.GroupSyntax = codes "GroupSyntax"
kind_name kinds.EscapeUnknown = codes "EscapeUnknown"
kind_name kinds.HexSyntax = codes "HexSyntax"
kind_name kinds.HexNotScalar = codes "HexNotScalar"
kind_name kinds.ClassRange = codes "ClassRange"
kind_name kinds.UnknownProperty = codes "UnknownProperty"
kind_name kinds.PropertyForm = codes "PropertyForm"
kind_name kinds.NotInBytes = codes "NotInBytes"
kind_name kinds.UnicodeWordBoundary = codes "UnicodeWordBoundary"
kind_name kinds.WordBoundaryForm = codes "WordBoundaryForm"

-- The message of a fault of this kind at this byte offset.
abbrev pub regex_text : ℕ → Kind → List ℕ
regex_text at kind = codes "regex fault at byte " ++ decimal at ++ codes ": " ++ kind_name kind

-- The fault of a pattern with this detail. The span is the span of the pattern's literal.
abbrev pub regex_fault : Kind → PatternDetail → Span → Fault
regex_fault kind detail span = fault_with Regex (regex_text detail.at kind) span (Pattern detail)

-- The faults of a pattern whose literal has this span.
abbrev pub pattern_faults : Span → Reading → List Fault
pattern_faults span (spelled tree) = []
pattern_faults span (broken kind detail) = only (regex_fault kind detail span)
pattern_faults span too_deep = only (fault LimitPatternNesting (codes "limit LimitPatternNesting passed") span)

-- A text was read as a pattern: it spells this tree, or its fault was added to the list.
pub record IsRead (unicode ignore_case : Bool) (text : Text) (span : Span) (tree : Option Tree) (old new : List Fault) : Type 0 where
  pub reading : Reading
  pub reads : Reads unicode ignore_case text reading
  pub is_tree : tree ≡ tree_in reading
  pub adds : new ≡ old ++ pattern_faults span reading
