-- The steps from leaves to a graph.
use Rattle.std.specs.Prelude.{◌≡◌, ◌≢◌, ℕ, Bool, List, [], ◌∷◌, ◌++◌, map, Option, Some, None}
use Rattle.logos_lexeme.specs.declared.lexeme.Span.{Span}
use Rattle.logos_token.specs.declared.error.fault_code.FaultCode.TheVariants.{LimitSize as LimitSizeCode, LimitStates as LimitStatesCode}
use Rattle.logos_token.specs.Faults.{Fault as SourceFault}
use Rattle.logos_enum.specs.Values.{Slice}
use Rattle.logos_definition.specs.Options.{OptionsView}
use Rattle.logos_pattern.specs.declared.leaf.Leaf.{Leaf}
use Rattle.logos_graph.specs.View.{GraphValue, rules_of}
use Rattle.logos_graph.specs.GraphOf.{IsGraphOf}
use Rattle.logos_automaton.specs.declared.errors.BuildError.{BuildError}
use Rattle.logos_automaton.specs.declared.errors.BuildError.TheVariants.{LimitSize, LimitStates, Memory}
use Rattle.logos_codegen.specs.Texts.{fault_at, size_text, states_text}
use Rattle.logos_codegen.specs.Rules.{named_rule, GraphReports}
use Rattle.logos_codegen.specs.Source.{IsAccepted, IsWithinSizes}
use Rattle.logos_codegen.specs.Given.{IsGraphOfSource}

-- The faults after a limit is reported.
abbrev pub IsLimit : BuildError → Span → List SourceFault → List SourceFault → Type 0
IsLimit LimitSize item before after = after ≡ before ++ fault_at LimitSizeCode size_text item ∷ []
IsLimit LimitStates item before after = after ≡ before ++ fault_at LimitStatesCode states_text item ∷ []
IsLimit Memory item before after = ⊥

-- The graph of leaves, if there is one, and the faults after its own are reported. Without a graph
-- there is at least one fault.
pub record ReportsGraph (leaves : List Leaf) (utf8 : Bool) (item : Span) (before after : List SourceFault) (graph : Option GraphValue) : Type 0 where
  pub faults : List SourceFault
  pub reports : GraphReports (map named_rule leaves) item faults
  pub all : after ≡ before ++ faults
  pub missing : graph ≡ None → faults ≢ []
  pub is : (value : GraphValue) → graph ≡ Some value → IsGraphOf leaves utf8 value × (faults ≡ [] → value.faults ≡ [])

-- The graph of leaves, if no fault is reported before it and it has none.
abbrev pub IsFaultless : List Leaf → Bool → Span → List SourceFault → GraphValue → Type 0
IsFaultless leaves utf8 item before graph = ReportsGraph leaves utf8 item before [] (Some graph)

-- There are faults: those reported before the graph of leaves, and its own.
abbrev pub AreGraphFaults : List Leaf → Bool → Span → List SourceFault → List SourceFault → Type 0
AreGraphFaults leaves utf8 item before faults = (faults ≢ []) × ((graph : Option GraphValue) × ReportsGraph leaves utf8 item before faults graph)

-- The graph of a source without faults, whose enum has this name and these options. The source is
-- accepted with the rules of the graph, and is within the limits of size.
pub record IsGraphMade (source : List ℕ) (name : Slice) (options : OptionsView) (graph : GraphValue) : Type 0 where
  pub accepted : IsAccepted source (rules_of graph.leaves) graph.utf8
  pub of_source : IsGraphOfSource source name options graph
  pub sizes : IsWithinSizes source (rules_of graph.leaves)
