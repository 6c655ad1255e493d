-- The rules of leaves, and the faults of their graph.
use Rattle.std.specs.Prelude.{◌≡◌, ℕ, ◌<◌, ◌≤◌, ◌^◌, Bool, true, false, List, [], ◌∷◌, ◌++◌, map, flat_map, codes, is_some, if◌then◌else◌}
use Rattle.logos_lexeme.specs.declared.lexeme.Span.{Span}
use Rattle.logos_token.specs.declared.error.fault_code.FaultCode.TheVariants.{LimitSize, LimitStates}
use Rattle.logos_token.specs.Faults.{Fault as SourceFault}
use Rattle.logos_pattern.specs.declared.leaf.Leaf.{Leaf}
use Rattle.logos_pattern.specs.Leaf.{KindValue, plain, holding, skipped}
use Rattle.logos_automaton.specs.Munch.{Rule}
use Rattle.logos_graph.specs.View.{rule_of}
use Rattle.logos_automaton.specs.Faults.{AllStart, Fault, AreFaults}
use Rattle.logos_automaton.specs.Measures.{size_of}
use Rattle.logos_automaton.specs.ReadKeys.{HasMoreKeys}
use Rattle.logos_leaf.specs.Leaves.{LeafView}
use Rattle.logos_parser.specs.Utf8Faults.{kind_name}
use Rattle.logos_codegen.specs.Texts.{NamedLeaf, named_leaf, fault_at, size_text, states_text, reported_as}

-- A leaf: its name in messages, and its rule.
pub record NamedRule : Type 0 where
  pub named : NamedLeaf
  pub rule : Rule

abbrev pub named_rule : Leaf → NamedRule
named_rule leaf = record { named = named_leaf leaf; rule = rule_of leaf }

-- The matches of a leaf of this kind have no items.
abbrev pub skips : KindValue → Bool
skips (plain name) = false
skips (holding name type) = false
skips skipped = true

-- The pattern of a leaf, in the form that messages use.
abbrev pub pattern_text : LeafView → List ℕ
pattern_text leaf = codes "#[" ++ (if leaf.is_token then codes "token" else codes "regex") ++ codes "(" ++ leaf.source ++ codes ")]"

-- The name of a leaf in messages.
abbrev pub name_of : LeafView → NamedLeaf
name_of leaf = record {
  text = pattern_text leaf ++ codes " " ++ kind_name leaf.kind;
  source = leaf.source;
  kind = kind_name leaf.kind;
  span = leaf.span;
  priority = leaf.priority;
}

-- The rule of a leaf.
abbrev pub rule_of_view : LeafView → Rule
rule_of_view leaf = record { tree = leaf.tree; priority = leaf.priority; use_of = record { skips = skips leaf.kind; calls_back = is_some leaf.callback } }

abbrev pub named_of_view : LeafView → NamedRule
named_of_view leaf = record { named = name_of leaf; rule = rule_of_view leaf }

abbrev pub rules_of_views : List LeafView → List Rule
rules_of_views = map rule_of_view

abbrev pub rules_in : List NamedRule → List Rule
rules_in = map (λ leaf. leaf.rule)

abbrev pub names_in : List NamedRule → List NamedLeaf
names_in = map (λ leaf. leaf.named)

-- The faults that are reported for the graph of the leaves: its own, or a limit instead.
pub data GraphReports (leaves : List NamedRule) (item : Span) (faults : List SourceFault) : Type 0 where
  graph_faults : (graph : List Fault) → size_of (rules_in leaves) ≤ 2 ^ 20 → AreFaults (rules_in leaves) graph →
      faults ≡ flat_map (reported_as (names_in leaves) item) graph → GraphReports leaves item faults
  size_limit : 2 ^ 20 < size_of (rules_in leaves) → faults ≡ fault_at LimitSize size_text item ∷ [] → GraphReports leaves item faults
  states_limit : size_of (rules_in leaves) ≤ 2 ^ 20 → AllStart (rules_in leaves) → HasMoreKeys (rules_in leaves) 65536 →
      faults ≡ fault_at LimitStates states_text item ∷ [] → GraphReports leaves item faults
