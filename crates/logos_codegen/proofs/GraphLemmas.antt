-- The faults of the graph of leaves, and the faults of all steps together.
use Rattle.std.proofs.Common.{◌≡◌, ℕ, ◌<◌, ◌≤◌, ◌^◌, Bool, List, [], ◌∷◌, ◌++◌, length, map, flat_map, Option, Some, None, option_map, is_some, refl, sym, subst, ◌∙◌, ap, inl, inr}
use Rattle.std.proofs.lemmas.Bool.{cases_lt}
use Rattle.logos_lexeme.specs.declared.lexeme.Span.{Span}
use Rattle.logos_token.specs.Faults.{Fault as SourceFault}
use Rattle.logos_pattern.specs.declared.leaf.Leaf.{Leaf}
use Rattle.logos_enum.specs.EnumValues.{EnumValue}
use Rattle.logos_enum.specs.Values.{Slice}
use Rattle.logos_definition.specs.Options.{OptionsView, utf8_mode}
use Rattle.logos_pattern.specs.Leaf.{kind_text, kind_value, is_skip}
use Rattle.logos_pattern.specs.declared.leaf.VariantKind.{VariantKind}
use Rattle.logos_pattern.specs.declared.leaf.VariantKind.TheVariants.{Unit as UnitVariant, Value, Skip}
use Rattle.logos_pattern.specs.declared.leaf.Callback.{Callback}
use Rattle.logos_attribute.specs.CallbackViews.{callback_view}
use Rattle.logos_leaf.specs.Leaves.{LeafView}
use Rattle.logos_leaf.specs.LeafViews.{leaf_view}
use Rattle.logos_parser.specs.Endings.{YieldsEnum, IsShallow}
use Rattle.logos_parser.specs.Refusals.{Refuses as RefusesSource}
use Rattle.logos_parser.specs.Analyses.{ReadsEnum}
use Rattle.logos_parser.specs.Utf8Faults.{kind_name}
use Rattle.logos_automaton.specs.Munch.{Rule}
use Rattle.logos_automaton.specs.Faults.{AreFaults}
use Rattle.logos_automaton.specs.Measures.{size_of}
use Rattle.logos_graph.specs.View.{GraphValue, rule_of, rules_of}
use Rattle.logos_graph.specs.GraphOf.{IsGraphOf, Refuses}
use Rattle.logos_automaton.specs.declared.errors.BuildError.{BuildError}
use Rattle.logos_automaton.specs.declared.errors.BuildError.TheVariants.{LimitSize, LimitStates, Memory}
use Rattle.logos_codegen.specs.Texts.{named_leaf, reported_as}
use Rattle.logos_codegen.specs.Rules.{NamedRule, named_rule, named_of_view, rule_of_view, rules_of_views, skips, rules_in, names_in, GraphReports, graph_faults, size_limit, states_limit}
use Rattle.logos_codegen.specs.Source.{AreReported, IsRefused, faulty}
use Rattle.logos_codegen.specs.inside.Steps.{IsLimit, ReportsGraph, AreGraphFaults, IsGraphMade}
use Rattle.logos_parser.specs.declared.refusal.Refusal.{Refusal}
use Rattle.logos_parser.proofs.RefusalLemmas.{refuses_by}
use Rattle.logos_codegen.proofs.ReportingLemmas.{reports_some}

pub rules_are : (leaves : List Leaf) → rules_in (map named_rule leaves) ≡ rules_of leaves
rules_are [] = refl
rules_are (leaf ∷ leaves) = ap (λ (rules : List Rule). rule_of leaf ∷ rules) (rules_are leaves)

names_are : (leaves : List Leaf) → map named_leaf leaves ≡ names_in (map named_rule leaves)
names_are [] = refl
names_are (leaf ∷ leaves) = ap (λ names. named_leaf leaf ∷ names) (names_are leaves)

at_most : (size : ℕ) → (2 ^ 20 < size → ⊥) → size ≤ 2 ^ 20
at_most size h = elim (cases_lt (2 ^ 20) size) [ inl more ↦ absurd (h more) | inr most ↦ most ]

-- the faults of a graph are reported
pub graph_reported : (leaves : List Leaf) (utf8 : Bool) (item : Span) (before after : List SourceFault) (graph : GraphValue) → IsGraphOf leaves utf8 graph →
    (2 ^ 20 < size_of (rules_of leaves) → ⊥) → after ≡ before ++ flat_map (reported_as (map named_leaf leaves) item) graph.faults →
    ReportsGraph leaves utf8 item before after (Some graph)
graph_reported leaves utf8 item before after graph g small e =
    let are : AreFaults (rules_in (map named_rule leaves)) graph.faults = rw (rules_are leaves) g.faults_are in
    let small' : size_of (rules_in (map named_rule leaves)) ≤ 2 ^ 20 = rw (rules_are leaves) (at_most (size_of (rules_of leaves)) small) in
    let names : flat_map (reported_as (map named_leaf leaves) item) graph.faults ≡ flat_map (reported_as (names_in (map named_rule leaves)) item) graph.faults =
    ap (λ names. flat_map (reported_as names item) graph.faults) (names_are leaves) in
    record {
      faults = flat_map (reported_as (names_in (map named_rule leaves)) item) graph.faults;
      reports = graph_faults graph.faults small' are refl;
      all = e ∙ ap (λ (xs : List SourceFault). before ++ xs) names;
      missing = λ n. absurd (cc);
      is = λ value s.
          let same : graph ≡ value = cc in
          rw (← same) (g, λ none. reports_some (map named_rule leaves) item graph.faults are none);
    }

-- a limit is reported
pub limit_reported : (leaves : List Leaf) (utf8 : Bool) (item : Span) (before after : List SourceFault) (error : BuildError) →
    Refuses (rules_of leaves) error → (2 ^ 20 < size_of (rules_of leaves) → error ≡ LimitSize) → IsLimit error item before after → ReportsGraph leaves utf8 item before after None
limit_reported leaves utf8 item before after LimitSize r only e = record {
  faults = _;
  reports = size_limit (rw (rules_are leaves) r) refl;
  all = e;
  missing = λ n m. absurd (cc);
  is = λ value s. absurd (cc);
}
limit_reported leaves utf8 item before after LimitStates r only e = record {
  faults = _;
  reports = states_limit (rw (rules_are leaves) (at_most (size_of (rules_of leaves)) (λ more. let s = only more in absurd (cc)))) (rw (rules_are leaves) r.0) (rw (rules_are leaves) r.1) refl;
  all = e;
  missing = λ n m. absurd (cc);
  is = λ value s. absurd (cc);
}
limit_reported leaves utf8 item before after Memory r only e = absurd e

-- two lists that are empty together
both_empty : (xs ys : List SourceFault) → xs ++ ys ≡ [] → (xs ≡ []) × (ys ≡ [])
both_empty [] ys e = (refl, e)
both_empty (x ∷ xs) ys e = absurd (cc)

-- the graph's part is empty only without faults
graph_faultless : (leaves : List NamedRule) (item : Span) (faults : List SourceFault) → faults ≡ [] → GraphReports leaves item faults → AreFaults (rules_in leaves) []
graph_faultless leaves item faults none (graph_faults graph small are e) =
    let empty : graph ≡ [] = reports_some leaves item graph are (sym e ∙ none) in
    rw empty at are
graph_faultless leaves item faults none (size_limit more e) = absurd (cc)
graph_faultless leaves item faults none (states_limit small start more e) = absurd (cc)

-- the graph's part is empty only within the limit of size
graph_small : (leaves : List NamedRule) (item : Span) (faults : List SourceFault) → faults ≡ [] → GraphReports leaves item faults → size_of (rules_in leaves) ≤ 2 ^ 20
graph_small leaves item faults none (graph_faults graph small are e) = small
graph_small leaves item faults none (size_limit more e) = absurd (cc)
graph_small leaves item faults none (states_limit small start more e) = small

-- without a graph, its part is a fault
pub missing_reported : (leaves : List Leaf) (utf8 : Bool) (item : Span) (before after : List SourceFault) (graph : Option GraphValue) → ReportsGraph leaves utf8 item before after graph → graph ≡ None →
    AreGraphFaults leaves utf8 item before after
missing_reported leaves utf8 item before after graph found none = (λ e. found.missing none (both_empty before found.faults (sym found.all ∙ e)).1, (graph, found))

-- ---- leaves and their views

kind_names : (kind : VariantKind) → kind_text kind ≡ kind_name (kind_value kind)
kind_names (UnitVariant name) = refl
kind_names (Value name type) = refl
kind_names Skip = refl

kind_skips : (kind : VariantKind) → is_skip kind ≡ skips (kind_value kind)
kind_skips (UnitVariant name) = refl
kind_skips (Value name type) = refl
kind_skips Skip = refl

callback_calls_back : (callback : Option Callback) → is_some callback ≡ is_some (option_map callback_view callback)
callback_calls_back None = refl
callback_calls_back (Some callback) = refl

named_is : (leaf : Leaf) → named_rule leaf ≡ named_of_view (leaf_view leaf)
named_is leaf = rw (kind_names leaf.kind, kind_skips leaf.kind, callback_calls_back leaf.callback) refl

named_are : (leaves : List Leaf) → map named_rule leaves ≡ map named_of_view (map leaf_view leaves)
named_are [] = refl
named_are (leaf ∷ leaves) = rw (named_is leaf, named_are leaves) refl

pub rules_of_named : (leaves : List LeafView) → rules_in (map named_of_view leaves) ≡ rules_of_views leaves
rules_of_named [] = refl
rules_of_named (leaf ∷ leaves) = ap (λ (rules : List Rule). rule_of_view leaf ∷ rules) (rules_of_named leaves)

-- the rules of leaves are those of their views
pub rules_view : (leaves : List Leaf) → rules_of_views (map leaf_view leaves) ≡ rules_of leaves
rules_view leaves = sym (rules_of_named (map leaf_view leaves)) ∙ ap rules_in (sym (named_are leaves)) ∙ rules_are leaves

-- ---- an enum, and the graph of its leaves

module _ (source : List ℕ) (enum : EnumValue) (item : Span) (leaves : List Leaf) (options : OptionsView) (before : List SourceFault)
    (reads_as : YieldsEnum source enum item) (enum_reads : ReadsEnum enum (map leaf_view leaves) options before) where
  -- all faults
  abbrev AllReported : List SourceFault → Type 0
  AllReported faults = AreReported enum item faults (map leaf_view leaves)

  all_reported : (after : List SourceFault) (graph : Option GraphValue) → ReportsGraph leaves (utf8_mode options) item before after graph → AllReported after
  all_reported after graph found = record {
    options = options;
    enum_faults = before;
    graph_faults = found.faults;
    reads_as = enum_reads;
    graph = rw (named_are leaves) at found.reports;
    all = found.all;
  }

  -- some faults up to those of the graph refuse the source
  pub graph_refuses : length source ≤ 16777216 → IsShallow source → (error : Refusal) → RefusesSource (AreGraphFaults leaves (utf8_mode options) item before) error → RefusesSource (IsRefused source) error
  graph_refuses short shallow error r =
      refuses_by (AreGraphFaults leaves (utf8_mode options) item before) (IsRefused source) (λ faults f. faulty short shallow reads_as (all_reported faults f.1.0 f.1.1) f.0) error r

  -- where nothing is reported, the graph is that of an accepted source
  pub graph_made : (name : Slice) (graph : GraphValue) → length source ≤ 16777216 → IsShallow source → enum.name ≡ name →
      ReportsGraph leaves (utf8_mode options) item before [] (Some graph) → IsGraphMade source name options graph
  graph_made name graph short shallow is_name found =
      let both = both_empty before found.faults (sym found.all) in
      let held = found.is graph refl in
      let made = held.0 in
      let none : ReadsEnum enum (map leaf_view leaves) options [] = rw both.0 at enum_reads in
      let reports : GraphReports (map named_rule leaves) item found.faults = found.reports in
      let rules : rules_in (map named_rule leaves) ≡ rules_of leaves = rules_are leaves in
      let faultless : AreFaults (rules_of leaves) [] = rw rules at (graph_faultless (map named_rule leaves) item found.faults both.1 reports) in
      let small : size_of (rules_of leaves) ≤ 2 ^ 20 = rw rules at (graph_small (map named_rule leaves) item found.faults both.1 reports) in
      record {
        accepted = record {
          enum = enum;
          item = item;
          reads_as = reads_as;
          leaves = map leaf_view leaves;
          options = options;
          enum_reads = none;
          faultless = rw (rules_view leaves) faultless;
          same_rules = ap rules_of made.leaves_are ∙ sym (rules_view leaves);
          same_mode = made.mode;
        };
        of_source = record {
          enum = enum;
          item = item;
          reads_as = reads_as;
          is_name = is_name;
          enum_reads = rw (sym made.leaves_are) at none;
          same_mode = made.mode;
          of_leaves = subst (λ (given : List Leaf). IsGraphOf given graph.utf8 graph) (sym made.leaves_are) (subst (λ (mode : Bool). IsGraphOf leaves mode graph) (sym made.mode) made);
          faultless = held.1 both.1;
        };
        sizes = record { short = short; shallow = shallow; small = rw made.leaves_are small };
      }
