-- The literals and the callbacks of leaves occur in the tokens of their enum.
use Rattle.std.proofs.Common.{◌≡◌, Bool, true, false, ℕ, List, [], ◌∷◌, ◌++◌, IsUtf8, Option, Some, None, Ok, if◌then◌else◌, sym, subst}
use Rattle.std.specs.Prelude.{All, IfSome}
use Rattle.std.specs.Option.{option_to_list}
use Rattle.std.proofs.lemmas.List.Elements.{All-nil, All-cons}
use Rattle.logos_lexeme.specs.declared.lexeme.Span.{Span}
use Rattle.logos_token.specs.Faults.{Fault}
use Rattle.logos_token.specs.Spans.{IsSpanOf}
use Rattle.logos_token.specs.Spelling.{Spells}
use Rattle.logos_token.specs.Tokens.{TokenList, literal, none, also, run_span}
use Rattle.logos_token.specs.PrintedAgain.{IsRunOf}
use Rattle.logos_token.proofs.reading.SpanLemmas.{Each, spelled_fits, fits_of, span_fits, run-spans}
use Rattle.logos_pattern.specs.Leaf.{KindValue, skipped}
use Rattle.logos_hir.specs.Hir.{literal_tree}
use Rattle.logos_hir.specs.Tree.{Tree}
use Rattle.logos_type_params.specs.Substitution.{Params}
use Rattle.logos_enum.specs.AttributeValues.{AttributeValue}
use Rattle.logos_enum.specs.Enum.{Reads}
use Rattle.logos_enum.specs.EnumValues.{EnumValue, VariantValue}
use Rattle.logos_enum.specs.Values.{ParameterValue}
use Rattle.logos_enum.specs.declared.generics.ParameterKind.{ParameterKind}
use Rattle.logos_enum.specs.declared.generics.ParameterKind.TheVariants as kinds
use Rattle.logos_attribute.specs.Callbacks.{CallbackView, view_span}
use Rattle.logos_attribute.specs.Reports.{Report, without_faults}
use Rattle.logos_definition.specs.Attributes.{parameter_report, meta_report}
use Rattle.logos_definition.specs.Definitions.{DefinitionView}
use Rattle.logos_definition.specs.Metas.{meta_of}
use Rattle.logos_definition.specs.Options.{OptionsView}
use Rattle.logos_leaf.specs.subpattern.PatternFaults.{Reading, spelled, broken, too_deep}
use Rattle.logos_leaf.specs.subpattern.Substitution.{Stored}
use Rattle.logos_leaf.specs.Leaves.{LeafView, bytes_of, folded_report, token_report, token_leaf, IsTokenLeaf, fitted_report, regex_priority, reading_report, text_report, whole_report, IsRegexLeaf}
use Rattle.logos_leaf.specs.Sources.{ReadsParameters, no_parameter, one_parameter, ReadsAttributes, no_attribute, one_attribute, ReadsSource, IsSourceRead}
use Rattle.logos_leaf.specs.Variants.{TokenYields, no_token, a_token, RegexYields, no_regex, a_regex, AttributeYields, on_error, on_token, on_regex, on_other, AttributesAdd, no_attribute as no_more, one_attribute as one_first, VariantsAdd, no_variant, one_variant, SkipsAdd, no_skip, one_skip}
use Rattle.logos_laws.specs.spans.LeafSpans.{IsRunSpan, OccursIn, HasSpansOf}
use Rattle.logos_laws.proofs.spans.TokenParts.{Part}
use Rattle.logos_laws.proofs.spans.EnumParts.{VariantParts, EnumParts, enum_parts, split_part}
use Rattle.logos_laws.proofs.spans.HeadParts.{IfRun}
use Rattle.logos_laws.proofs.spans.DefinitionParts.{DefinitionParts, IfDefinition, attribute_definition, SkipParts, reads_attribute}

-- the leaf, if there is one, occurs in these tokens
abbrev IfLeaf : TokenList → Option LeafView → Type 0
IfLeaf tokens None = Unit {0}
IfLeaf tokens (Some leaf) = OccursIn tokens leaf

leaf_if : (tokens : TokenList) (b : Bool) (one other : Report (Option LeafView)) → IfLeaf tokens one.value → IfLeaf tokens other.value → IfLeaf tokens (if b then one else other).value
leaf_if tokens true one other p q = p
leaf_if tokens false one other p q = q

module _ (tokens : TokenList) (d : DefinitionView) (p : DefinitionParts tokens d) (kind : KindValue) where
  folded_parts : (reading : Reading) → IfLeaf tokens (folded_report d kind reading).value
  folded_parts (spelled tree) = record { token = p.literal; callback = p.callback }
  folded_parts (broken cause at) = tt
  folded_parts too_deep = tt

  token_parts : (reading : Reading) → IfLeaf tokens (token_report d kind reading).value
  token_parts reading = leaf_if tokens d.ignore_case (folded_report d kind reading) (without_faults (Some (token_leaf d kind (literal_tree (bytes_of d.literal.held))))) (folded_parts reading) (record { token = p.literal; callback = p.callback })

  token_leaf_parts : {leaf : Option LeafView} {old new : List Fault} → IsTokenLeaf d kind leaf old new → IfLeaf tokens leaf
  token_leaf_parts l = subst (IfLeaf tokens) (sym l.reports.0) (token_parts l.reading)

  fitted_parts : (tree : Tree) (priority : Option ℕ) → IfLeaf tokens (fitted_report d kind tree priority).value
  fitted_parts tree (Some priority) = record { token = p.literal; callback = p.callback }
  fitted_parts tree None = tt

  reading_parts : (reading : Reading) → IfLeaf tokens (reading_report d kind reading).value
  reading_parts (spelled tree) = fitted_parts tree (regex_priority d tree)
  reading_parts (broken cause at) = tt
  reading_parts too_deep = tt

  text_parts : (reading : Reading) (text : Option (List ℕ)) → IfLeaf tokens (text_report d kind reading text).value
  text_parts reading None = tt
  text_parts reading (Some text) = reading_parts reading

  regex_leaf_parts : {names : List Stored} {leaf : Option LeafView} {old new : List Fault} → IsRegexLeaf d kind names leaf old new → IfLeaf tokens leaf
  regex_leaf_parts {names} l = subst (IfLeaf tokens) (sym l.reports.0) (text_parts l.reading (whole_report d names).value)

-- ---- The leaves of variants and skips.

each_added : (tokens : TokenList) (leaves : List LeafView) (leaf : Option LeafView) → Each (OccursIn tokens) leaves → IfLeaf tokens leaf → Each (OccursIn tokens) (leaves ++ option_to_list leaf)
each_added tokens [] None e l = tt
each_added tokens [] (Some leaf) e l = (l, tt)
each_added tokens (first ∷ rest) leaf e l = (e.0, each_added tokens rest leaf e.1 l)

-- the definition that was read
definition_read : (tokens : TokenList) (attribute : AttributeValue) (definition : DefinitionView) → IfRun (Part tokens) attribute.inside → Some definition ≡ (meta_report (meta_of attribute)).value → DefinitionParts tokens definition
definition_read tokens attribute definition r e = subst (IfDefinition tokens) (sym e) (attribute_definition tokens attribute r)

token_yields : (tokens : TokenList) {kind : KindValue} {attribute : AttributeValue} {old new : List Fault} {leaf : Option LeafView} → TokenYields kind attribute old new leaf → IfRun (Part tokens) attribute.inside → IfLeaf tokens leaf
token_yields tokens (no_token t f) r = tt
token_yields tokens {kind} {attribute} (a_token {definition = definition} t l) r = token_leaf_parts tokens definition (definition_read tokens attribute definition r t.0) kind l

regex_yields : (tokens : TokenList) {names : List Stored} {kind : KindValue} {attribute : AttributeValue} {old new : List Fault} {leaf : Option LeafView} →
    RegexYields names kind attribute old new leaf → IfRun (Part tokens) attribute.inside → IfLeaf tokens leaf
regex_yields tokens (no_regex t f) r = tt
regex_yields tokens {kind = kind} {attribute = attribute} (a_regex {definition = definition} t l) r = regex_leaf_parts tokens definition (definition_read tokens attribute definition r t.0) kind l

attribute_yields : (tokens : TokenList) {names : List Stored} {kind : KindValue} {attribute : AttributeValue} {old new : List Fault} {leaf : Option LeafView} →
    AttributeYields names kind attribute old new leaf → IfRun (Part tokens) attribute.inside → IfLeaf tokens leaf
attribute_yields tokens (on_error n f) r = tt
attribute_yields tokens (on_token n g) r = token_yields tokens g r
attribute_yields tokens (on_regex n g) r = regex_yields tokens g r
attribute_yields tokens (on_other n m k e) r = tt

attributes_add : (tokens : TokenList) {names : List Stored} {kind : KindValue} {run : TokenList} {before after : List LeafView} {old new : List Fault} →
    AttributesAdd names kind run before after old new → IsRunOf run tokens → Each (OccursIn tokens) before → Each (OccursIn tokens) after
attributes_add tokens (no_more e) r b = b
attributes_add tokens {run = run} (one_first {split = split} {leaf = leaf} {before = before} e g rest) r b =
    let s = split_part tokens run split r e in attributes_add tokens rest s.1 (each_added tokens before leaf b (attribute_yields tokens g s.0))

variants_add : (tokens : TokenList) {params : Params} {names : List Stored} {list : List VariantValue} {before after : List LeafView} {old new : List Fault} →
    VariantsAdd params names list before after old new → Each (VariantParts tokens) list → Each (OccursIn tokens) before → Each (OccursIn tokens) after
variants_add tokens no_variant v b = b
variants_add tokens (one_variant a rest) v b = variants_add tokens rest v.1 (attributes_add tokens a.add v.0 b)

skips_add : (tokens : TokenList) {names : List Stored} {list : List DefinitionView} {before after : List LeafView} {old new : List Fault} →
    SkipsAdd names list before after old new → Each (DefinitionParts tokens) list → Each (OccursIn tokens) before → Each (OccursIn tokens) after
skips_add tokens no_skip d b = b
skips_add tokens (one_skip {definition = definition} {leaf = leaf} {before = before} l rest) d b =
    skips_add tokens rest d.1 (each_added tokens before leaf b (regex_leaf_parts tokens definition d.0 skipped l))

-- ---- The whole.

parameters_parts : (tokens : TokenList) {o : OptionsView} {o' : OptionsView} {old new : List Fault} {list : List ParameterValue} → ReadsParameters o o' old new list → SkipParts tokens o → SkipParts tokens o'
parameters_parts tokens no_parameter p = p
parameters_parts tokens {o} (one_parameter {o' = o'} {parameter = parameter} t rest) p = parameters_parts tokens rest (subst (SkipParts tokens) (sym t.0) (go parameter.kind))
  where
    go : (kind : ParameterKind) → SkipParts tokens (parameter_report kind (record { text = parameter.name.text; span = parameter.name.span }) (run_span parameter.run) o).value
    go kinds.Lifetime = p
    go kinds.Type = p
    go kinds.Const = p

attributes_parts : (tokens : TokenList) {o : OptionsView} {o' : OptionsView} {old new : List Fault} {run : TokenList} → ReadsAttributes o o' old new run → IsRunOf run tokens → SkipParts tokens o → SkipParts tokens o'
attributes_parts tokens (no_attribute e) r p = p
attributes_parts tokens {run = run} (one_attribute {split = split} e s rest) r p =
    let q = split_part tokens run split r e in attributes_parts tokens rest q.1 (reads_attribute tokens split.attribute s q.0 p)

source_parts : (tokens : TokenList) (enum : EnumValue) (o : OptionsView) (leaves : List LeafView) (faults : List Fault) → ReadsSource enum o leaves faults → EnumParts tokens enum → Each (OccursIn tokens) leaves
source_parts tokens enum o leaves faults s p =
    let skips = attributes_parts tokens s.attributes p.0 (parameters_parts tokens s.parameters tt) in
    variants_add tokens s.leaves_read.variants_add p.1 (skips_add tokens s.leaves_read.skips_add skips tt)

all_each : {A : Type 0} (P : A → Type 0) (list : List A) → Each P list → All P list
all_each P [] e = All-nil P
all_each P (first ∷ rest) e = All-cons P first rest e.0 (all_each P rest e.1)

module _ (tokens : TokenList) (enum : EnumValue) (leaves : List LeafView) (others : OptionsView) (faults : List Fault) (reads : Reads tokens (Ok enum)) (read : IsSourceRead enum leaves others faults) where
  each_occurs : Each (OccursIn tokens) leaves
  each_occurs = source_parts tokens enum read.options leaves faults read.reads_as (enum_parts tokens enum reads)

  pub leaves_occur : All (OccursIn tokens) leaves
  leaves_occur = all_each (OccursIn tokens) leaves each_occurs

  module _ (source : List ℕ) (utf8 : IsUtf8 source) (spells : Spells source tokens) where
    span_of_run : (span : Span) → IsRunSpan tokens span → IsSpanOf source span
    span_of_run span s = subst (IsSpanOf source) (sym s.whole) (run-spans source utf8 s.run tokens spells s.is_run)

    callback_spans : (callback : Option CallbackView) → IfSome callback (λ callback. IsRunSpan tokens (view_span callback)) → IfSome callback (λ callback. IsSpanOf source (view_span callback))
    callback_spans None s = s
    callback_spans (Some callback) s = span_of_run (view_span callback) s

    each_spans : (list : List LeafView) → Each (OccursIn tokens) list → Each (HasSpansOf source) list
    each_spans [] e = tt
    each_spans (leaf ∷ rest) e =
        let run = also (literal leaf.source leaf.span) none in
        let occurs = fits_of source run tokens e.0.token (spelled_fits source tokens utf8 spells) in
        (record { span = span_fits source run utf8 occurs; text = occurs.occurs.0.2; callback = callback_spans leaf.callback e.0.callback }, each_spans rest e.1)

    pub leaves_have_spans : All (HasSpansOf source) leaves
    leaves_have_spans = all_each (HasSpansOf source) leaves (each_spans leaves each_occurs)
