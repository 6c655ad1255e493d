-- The conditions under which a source is accepted, and the reasons that it is refused.
use Rattle.std.specs.Prelude.{◌≡◌, ◌≢◌, ℕ, ◌≤◌, ◌^◌, Bool, List, [], ◌∷◌, ◌++◌, length, map}
use Rattle.logos_lexeme.specs.declared.lexeme.Span.{Span}
use Rattle.logos_token.specs.Faults.{Fault as SourceFault}
use Rattle.logos_enum.specs.EnumValues.{EnumValue}
use Rattle.logos_definition.specs.Options.{OptionsView, utf8_mode}
use Rattle.logos_leaf.specs.Leaves.{LeafView}
use Rattle.logos_parser.specs.Endings.{YieldsEnum, EndsReading, IsShallow}
use Rattle.logos_parser.specs.Analyses.{ReadsEnum}
use Rattle.logos_automaton.specs.Munch.{Rule}
use Rattle.logos_automaton.specs.Faults.{AreFaults}
use Rattle.logos_automaton.specs.Measures.{size_of}
use Rattle.logos_automaton.specs.ReadKeys.{HasMoreKeys}
use Rattle.logos_codegen.specs.Rules.{named_of_view, rules_of_views, GraphReports}

-- All faults of an enum, in order: those of its parts, then those of the graph of its leaves.
pub record AreReported (enum : EnumValue) (item : Span) (faults : List SourceFault) (leaves : List LeafView) : Type 0 where
  pub options : OptionsView
  pub enum_faults : List SourceFault
  pub graph_faults : List SourceFault
  pub reads_as : ReadsEnum enum leaves options enum_faults
  pub graph : GraphReports (map named_of_view leaves) item graph_faults
  pub all : faults ≡ enum_faults ++ graph_faults

-- The source spells an enum without faults, with the rules of its leaves and its mode: none of its
-- parts has a fault, and neither have the rules.
pub record IsAccepted (source : List ℕ) (rules : List Rule) (utf8 : Bool) : Type 0 where
  pub enum : EnumValue
  pub item : Span
  pub reads_as : YieldsEnum source enum item
  pub leaves : List LeafView
  pub options : OptionsView
  pub enum_reads : ReadsEnum enum leaves options []
  pub faultless : AreFaults (rules_of_views leaves) []
  pub same_rules : rules ≡ rules_of_views leaves
  pub same_mode : utf8 ≡ utf8_mode options

-- The reason that a source is refused: one fault that ends the reading; or, within the limits on
-- length and nesting, all faults of its enum, of which there is at least one.
pub data IsRefused (source : List ℕ) (faults : List SourceFault) : Type 0 where
  unread : {fault : SourceFault} → EndsReading source fault → faults ≡ fault ∷ [] → IsRefused source faults
  faulty : {enum : EnumValue} {item : Span} {leaves : List LeafView} → length source ≤ 16777216 → IsShallow source →
      YieldsEnum source enum item → AreReported enum item faults leaves → faults ≢ [] → IsRefused source faults

-- The length of the source and the nesting of its delimiters are within their limits, and so is the
-- size of the trees of the rules.
pub record IsWithinSizes (source : List ℕ) (rules : List Rule) : Type 0 where
  pub short : length source ≤ 16777216
  pub shallow : IsShallow source
  pub small : size_of rules ≤ 2 ^ 20

-- No limit refuses the source with these rules, except the nesting of patterns and types, which is
-- a fault of the enum: it is within the sizes, and has no more keys than the limit of states.
pub record IsWithinLimits (source : List ℕ) (rules : List Rule) : Type 0 where
  pub sizes : IsWithinSizes source rules
  pub few_keys : ¬ HasMoreKeys rules 65536
