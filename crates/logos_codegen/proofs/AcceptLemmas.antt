-- Sources that are refused, and those that are not.
use Rattle.std.proofs.Common.{◌≡◌, ℕ, Bool, List, [], ◌∷◌, ◌++◌, map, flat_map, Ok, Err, sym, ◌∙◌, ap, refl, arith}
use Rattle.logos_lexeme.specs.declared.lexeme.Span.{Span}
use Rattle.logos_token.specs.Faults.{Fault as SourceFault}
use Rattle.logos_token.specs.Tokens.{TokenList, run_span}
use Rattle.logos_token.proofs.reading.SpellingLaws.{spells-one, unreadable-excludes, deep-excludes}
use Rattle.logos_enum.specs.Enum.{Reads}
use Rattle.logos_enum.specs.EnumValues.{EnumValue}
use Rattle.logos_enum.proofs.EnumOnce.{once-reads}
use Rattle.logos_definition.specs.Options.{OptionsView, utf8_mode}
use Rattle.logos_leaf.specs.Leaves.{LeafView}
use Rattle.logos_leaf.specs.Sources.{ReadsSource}
use Rattle.logos_leaf.proofs.agreement.Sources.{source_once}
use Rattle.logos_automaton.specs.Munch.{Rule}
use Rattle.logos_automaton.specs.Faults.{AreFaults}
use Rattle.logos_automaton.proofs.ambiguity.OneFaults.{faults_once}
use Rattle.logos_parser.specs.Endings.{YieldsEnum, EndsTokens, EndsReading, source_limit, nesting_limit, unreadable, misread}
use Rattle.logos_parser.specs.Refusals.{Refuses, IsMemory}
use Rattle.logos_parser.specs.Analyses.{ReadsEnum, type_faults}
use Rattle.logos_parser.specs.Utf8Faults.{utf8_faults}
use Rattle.logos_parser.specs.declared.refusal.Refusal.{Refusal}
use Rattle.logos_parser.specs.declared.refusal.Refusal.TheVariants.{Errors, Memory}
use Rattle.logos_codegen.specs.Texts.{reported_as}
use Rattle.logos_codegen.specs.Rules.{NamedRule, named_of_view, rules_of_views, rules_in, names_in, GraphReports, graph_faults, size_limit, states_limit}
use Rattle.logos_codegen.specs.Source.{IsAccepted, IsRefused, unread, faulty, IsWithinLimits}
use Rattle.logos_codegen.specs.Tokenizing.{kinds_of_views}
use Rattle.logos_codegen.proofs.GraphLemmas.{rules_of_named}
use Rattle.logos_codegen.proofs.ShownLemmas.{same_rules, same_faults, same_kinds}

nothing_in : (xs ys : List SourceFault) → [] ≡ xs ++ ys → (xs ≡ []) × (ys ≡ [])
nothing_in [] ys e = (refl, sym e)
nothing_in (x ∷ xs) ys e = absurd (cc)

-- the options without the skips
abbrev without_skips : OptionsView → OptionsView
without_skips o = record o { skips = [] }

-- the parts of an enum without faults
pub record AreSilent (leaves : List LeafView) (options : OptionsView) (of_parts : List SourceFault) : Type 0 where
  pub parts : of_parts ≡ []
  pub text : utf8_faults (utf8_mode options) leaves ≡ []
  pub types : type_faults options ≡ []

pub silent : (enum : EnumValue) (leaves : List LeafView) (options : OptionsView) (a : ReadsEnum enum leaves options []) → AreSilent leaves options a.of_parts
silent enum leaves options a =
    let all = nothing_in (a.of_parts ++ utf8_faults (utf8_mode options) leaves) (type_faults options) a.all in
    let first = nothing_in a.of_parts (utf8_faults (utf8_mode options) leaves) (sym all.0) in
    record { parts = first.0; text = first.1; types = all.1 }

-- an enum without faults has one list of leaves and one set of options
pub enum_once : (enum : EnumValue) (leaves others : List LeafView) (options other : OptionsView) (faults : List SourceFault) →
    ReadsEnum enum leaves options [] → ReadsEnum enum others other faults → (faults ≡ []) × (rules_of_views leaves ≡ rules_of_views others) × (options ≡ other)
enum_once enum leaves others options other faults a b =
    let none = silent enum leaves options a in
    let reads_as : ReadsSource enum a.read.options leaves [] = rw none.parts at a.read.reads_as in
    let once = source_once reads_as b.read.reads_as in
    let same : options ≡ other = a.read.same ∙ ap without_skips once.1 ∙ sym b.read.same in
    let text : utf8_faults (utf8_mode other) others ≡ [] = sym (same_faults (utf8_mode other) leaves others once.2) ∙ rw same at none.text in
    let types : type_faults other ≡ [] = rw same at none.types in (
      b.all ∙ ap (λ (xs : List SourceFault). (xs ++ utf8_faults (utf8_mode other) others) ++ type_faults other) once.0
          ∙ ap (λ (xs : List SourceFault). xs ++ type_faults other) text ∙ types,
      same_rules leaves others once.2,
      same,
    )

-- it has tokens of the same kinds
kinds_alike : (enum : EnumValue) (leaves others : List LeafView) (options other : OptionsView) → ReadsEnum enum leaves options [] → ReadsEnum enum others other [] → kinds_of_views leaves ≡ kinds_of_views others
kinds_alike enum leaves others options other a b =
    let none = silent enum leaves options a in
    let reads_as : ReadsSource enum a.read.options leaves [] = rw none.parts at a.read.reads_as in
    same_kinds leaves others (source_once reads_as b.read.reads_as).2

-- ---- a source is one enum at most

pub one_value : (source : List ℕ) (value other : EnumValue) (item row_start : Span) → YieldsEnum source value item → YieldsEnum source other row_start → (value ≡ other) × (item ≡ row_start)
one_value source value other item row_start a b =
    let tokens = spells-one source a.tokens b.tokens a.spelled b.spelled in
    let reads : Reads b.tokens (Ok value) = rw tokens at a.reads in
    let same : Ok value ≡ Ok other = once-reads b.tokens _ _ reads b.reads in
    (cc, a.whole ∙ ap run_span tokens ∙ sym b.whole)

-- tokens of an enum do not end the reading
tokens_exclude : (tokens : TokenList) (value : EnumValue) (faults : List SourceFault) → Reads tokens (Ok value) → EndsTokens tokens faults → ⊥
tokens_exclude tokens value faults reads ends =
    let same : Ok value ≡ Err ends.error = once-reads tokens _ _ reads ends.reads in
    absurd (cc)

-- the reading of an enum within the limits is not ended by a fault
ends_excludes : (source : List ℕ) (rules : List Rule) (value : EnumValue) (item : Span) (fault : SourceFault) → YieldsEnum source value item → IsWithinLimits source rules → EndsReading source fault → ⊥
ends_excludes source rules value item fault reads_as limits (source_limit l is) = let s = limits.sizes.short in omega arith
ends_excludes source rules value item fault reads_as limits (nesting_limit deep is) =
    let more = deep-excludes source _ reads_as.tokens deep reads_as.spelled in
    let most = limits.sizes.shallow reads_as.tokens reads_as.spelled in
    omega arith
ends_excludes source rules value item fault reads_as limits (unreadable u is) = unreadable-excludes source _ _ reads_as.tokens u reads_as.spelled
ends_excludes source rules value item fault reads_as limits (misread {tokens} s shallow m) =
    let same = spells-one source reads_as.tokens tokens reads_as.spelled s in
    tokens_exclude tokens value _ (rw same at reads_as.reads) m

-- the graph of leaves without faults, within the limits, has no fault
graph_reports_none : (source : List ℕ) (leaves : List NamedRule) (item : Span) (faults : List SourceFault) → AreFaults (rules_in leaves) [] → IsWithinLimits source (rules_in leaves) → GraphReports leaves item faults → faults ≡ []
graph_reports_none source leaves item faults none limits (graph_faults graph small are e) =
    let same : graph ≡ [] = faults_once (rules_in leaves) graph [] are none in
    e ∙ ap (flat_map (reported_as (names_in leaves) item)) same
graph_reports_none source leaves item faults none limits (size_limit more e) = let small = limits.sizes.small in absurd (omega arith)
graph_reports_none source leaves item faults none limits (states_limit small start more e) = absurd (limits.few_keys more)

-- a source is accepted in one way
pub accepted_once : (source : List ℕ) (rules rules' : List Rule) (utf8 utf8' : Bool) → IsAccepted source rules utf8 → IsAccepted source rules' utf8' → (rules ≡ rules') × (utf8 ≡ utf8')
accepted_once source rules rules' utf8 utf8' a b =
    let same = one_value source a.enum b.enum a.item b.item a.reads_as b.reads_as in
    let reads_as : ReadsEnum b.enum a.leaves a.options [] = rw same.0 at a.enum_reads in
    let once = enum_once b.enum a.leaves b.leaves a.options b.options [] reads_as b.enum_reads in
    (a.same_rules ∙ once.1 ∙ sym b.same_rules, a.same_mode ∙ ap utf8_mode once.2 ∙ sym b.same_mode)

-- a source without faults has tokens of the kinds of its leaves
pub kinds_as_analyzed : (source : List ℕ) (rules : List Rule) (utf8 : Bool) (enum : EnumValue) (item : Span) (leaves : List LeafView) (options : OptionsView) → YieldsEnum source enum item → ReadsEnum enum leaves options [] →
    (a : IsAccepted source rules utf8) → kinds_of_views leaves ≡ kinds_of_views a.leaves
kinds_as_analyzed source rules utf8 enum item leaves options reads_as enum_reads a =
    let same = one_value source enum a.enum item a.item reads_as a.reads_as in
    let own : ReadsEnum a.enum leaves options [] = rw same.0 at enum_reads in
    kinds_alike a.enum leaves a.leaves options a.options own a.enum_reads

-- a source that is accepted has tokens of one list of kinds
pub kinds_once : (source : List ℕ) (rules rules' : List Rule) (utf8 utf8' : Bool) (a : IsAccepted source rules utf8) (b : IsAccepted source rules' utf8') → kinds_of_views a.leaves ≡ kinds_of_views b.leaves
kinds_once source rules rules' utf8 utf8' a b = kinds_as_analyzed source rules' utf8' a.enum a.item a.leaves a.options a.reads_as a.enum_reads b

-- a source without faults within the limits is not refused
accepted_or_refused : (source : List ℕ) (rules : List Rule) (utf8 : Bool) (faults : List SourceFault) → IsAccepted source rules utf8 → IsWithinLimits source rules → IsRefused source faults → ⊥
accepted_or_refused source rules utf8 faults a limits (unread ends is) = ends_excludes source rules a.enum a.item _ a.reads_as limits ends
accepted_or_refused source rules utf8 faults a limits (faulty {enum} {item} {leaves} short shallow reads_as reported some) =
    let same = one_value source a.enum enum a.item item a.reads_as reads_as in
    let own : ReadsEnum enum a.leaves a.options [] = rw same.0 at a.enum_reads in
    let once = enum_once enum a.leaves leaves a.options reported.options reported.enum_faults own reported.reads_as in
    let rules_are : rules_in (map named_of_view leaves) ≡ rules_of_views a.leaves = rules_of_named leaves ∙ sym once.1 in
    let faultless : AreFaults (rules_in (map named_of_view leaves)) [] = rw rules_are a.faultless in
    let limits' : IsWithinLimits source (rules_in (map named_of_view leaves)) = rw (rules_are, sym a.same_rules) limits in
    let graph = graph_reports_none source (map named_of_view leaves) item reported.graph_faults faultless limits' reported.graph in
    some (reported.all ∙ ap (λ (xs : List SourceFault). xs ++ reported.graph_faults) once.0 ∙ graph)

pub not_refused : (source : List ℕ) (rules : List Rule) (utf8 : Bool) (refusal : Refusal) → IsAccepted source rules utf8 → IsWithinLimits source rules → Refuses (IsRefused source) refusal → IsMemory refusal
not_refused source rules utf8 (Errors faults) a limits r = accepted_or_refused source rules utf8 faults a limits r
not_refused source rules utf8 Memory a limits r = tt
