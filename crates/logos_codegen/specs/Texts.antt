-- The faults that are reported for a graph, with their messages.
use Rattle.std.specs.Prelude.{ℕ, List, [], ◌∷◌, ◌++◌, codes, flat_map, None, slice_get, unwrap_or, if◌then◌else◌, ◌==◌}
use Rattle.std.specs.Option.{option_map_or}
use Rattle.std.specs.Fmt.{decimal}
use Rattle.logos_lexeme.specs.declared.lexeme.Span.{Span}
use Rattle.logos_token.specs.declared.error.fault_code.FaultCode.{FaultCode}
use Rattle.logos_token.specs.declared.error.fault_code.FaultCode.TheVariants.{EmptyMatch, Disambiguation, NoUniversalStart}
use Rattle.logos_token.specs.declared.error.detail.Detail.{Detail}
use Rattle.logos_token.specs.declared.error.detail.Detail.TheVariants.{Plain, Ambiguous}
use Rattle.logos_token.specs.Faults.{Fault as SourceFault}
use Rattle.logos_pattern.specs.Leaf.{leaf_text, source_of, kind_text}
use Rattle.logos_pattern.specs.declared.leaf.Leaf.{Leaf}
use Rattle.logos_automaton.specs.Faults.{Fault, no_universal_start, empty_match, disambiguation}

-- A leaf, in the form that messages use.
pub record NamedLeaf : Type 0 where
  -- The pattern and the variant.
  pub text : List ℕ
  -- The literal of the pattern.
  pub source : List ℕ
  -- The variant.
  pub kind : List ℕ
  -- The span of the literal.
  pub span : Span
  pub priority : ℕ

abbrev pub named_leaf : Leaf → NamedLeaf
named_leaf leaf = record { text = leaf_text leaf; source = source_of leaf.pattern; kind = kind_text leaf.kind; span = leaf.span; priority = leaf.priority }

-- A fault without a second span, with this detail.
abbrev pub fault_with : FaultCode → List ℕ → Span → Detail → SourceFault
fault_with code message span detail = record { code = code; message = message; span = span; also = None; detail = detail }

abbrev pub fault_at : FaultCode → List ℕ → Span → SourceFault
fault_at code message span = fault_with code message span Plain

-- ---- Faults of the graph

abbrev pub size_text : List ℕ
size_text = codes "limit LimitSize passed"

abbrev pub states_text : List ℕ
states_text = codes "limit LimitStates passed"

abbrev pub empty_match_text : NamedLeaf → List ℕ
empty_match_text leaf = codes "The pattern " ++ leaf.text ++ codes " can match the empty string, which is unsupported by logos."

abbrev pub empty_match_faults : NamedLeaf → List SourceFault
empty_match_faults leaf = fault_at EmptyMatch (empty_match_text leaf) leaf.span ∷ []

-- The leaf on a line of its own, after two spaces.
abbrev pub line_of : NamedLeaf → List ℕ
line_of leaf = codes "\n  " ++ leaf.text

abbrev pub start_text : List ℕ
start_text = codes "The state machine implementing this lexer is missing a universal start state,which is unsupported by logos. This is most likely do to a lookbehind assertion at the start of the regex."

-- The first leaf of a set, or `number` if the set is empty.
abbrev pub first_of : List ℕ → ℕ → ℕ
first_of set number = unwrap_or (slice_get set 0) number

module _ (leaves : List NamedLeaf) where
  -- The lines of the leaves of a set except `leaf`.
  abbrev pub other_lines : ℕ → List ℕ → List ℕ
  other_lines leaf set = flat_map (λ other. if other == leaf then [] else option_map_or line_of (slice_get leaves other) []) set

  abbrev pub disambiguation_text : List ℕ → ℕ → NamedLeaf → List ℕ
  disambiguation_text set number leaf =
      codes "The pattern " ++ leaf.text ++ codes " can match simultaneously with the following variants:"
      ++ other_lines number set ++ (codes "\n\n(all at the priority " ++ decimal leaf.priority ++ codes ")")

  -- The fault of a leaf of an ambiguous set, with the set and the leaf as its detail.
  abbrev pub disambiguation_fault : List ℕ → ℕ → NamedLeaf → SourceFault
  disambiguation_fault set number leaf =
      fault_with Disambiguation (disambiguation_text set number leaf) leaf.span (Ambiguous number (first_of set number))

  abbrev pub disambiguation_faults : List ℕ → ℕ → List SourceFault
  disambiguation_faults set number = option_map_or (λ leaf. disambiguation_fault set number leaf ∷ []) (slice_get leaves number) []

  -- The faults that are reported for a fault of the graph: one for an empty match, and one for each
  -- leaf of an ambiguous set. The fault of a missing universal start has the span of the enum.
  abbrev pub reported_as : Span → Fault → List SourceFault
  reported_as item no_universal_start = fault_at NoUniversalStart start_text item ∷ []
  reported_as item (empty_match leaf) = option_map_or empty_match_faults (slice_get leaves leaf) []
  reported_as item (disambiguation set) = flat_map (disambiguation_faults set) set
