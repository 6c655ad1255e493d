-- The sets of ambiguous leaves of a source.
use Rattle.std.proofs.Common.{◌≡◌, ◌≢◌, ℕ, ◌<◌, ◌≤◌, ◌^◌, List, [], refl, inl, inr, Result, Ok, Err, IfOk, subst}
use Rattle.std.proofs.lemmas.Bool.{cases_lt}
use Rattle.logos_lexeme.specs.declared.lexeme.Span.{Span}
use Rattle.logos_token.specs.Spelling.{Spells}
use Rattle.logos_token.specs.Tokens.{TokenList, depth_of}
use Rattle.logos_enum.specs.Enum.{Reads}
use Rattle.logos_enum.specs.EnumValues.{EnumValue}
use Rattle.logos_enum.specs.Rules.{Occurs}
use Rattle.logos_enum.specs.declared.error.ReadError.{ReadError}
use Rattle.logos_enum.specs.declared.error.ReadError.TheVariants.{NotAnEnum, Grammar, TypeUnsupported, LimitTypeNesting, Memory}
use Rattle.logos_parser.specs.Analyses.{IsEnumAnalysis}
use Rattle.logos_parser.specs.AnalysisViews.{analysis_view}
use Rattle.logos_parser.specs.Endings.{YieldsEnum, misread}
use Rattle.logos_parser.specs.declared.analysis.Analysis.{Analysis}
use Rattle.logos_causes.specs.Sets.{HasSets, LeavesHaveSets, read, unread}

-- tokens that are not an enum have no sets
misread_has : (source : List ℕ) (tokens : TokenList) (error : ReadError) (sizes : List ℕ) → Spells source tokens → depth_of tokens ≤ 128 → Reads tokens (Err error) → error ≢ Memory → sizes ≡ [] → HasSets source sizes
misread_has source tokens (NotAnEnum span) sizes s shallow is_read other none = unread (misread s shallow (record { error = NotAnEnum span; reads = is_read; are = refl })) none
misread_has source tokens (Grammar span) sizes s shallow is_read other none = unread (misread s shallow (record { error = Grammar span; reads = is_read; are = refl })) none
misread_has source tokens (TypeUnsupported span) sizes s shallow is_read other none = unread (misread s shallow (record { error = TypeUnsupported span; reads = is_read; are = refl })) none
misread_has source tokens (LimitTypeNesting span) sizes s shallow is_read other none = unread (misread s shallow (record { error = LimitTypeNesting span; reads = is_read; are = refl })) none
misread_has source tokens Memory sizes s shallow is_read other none = absurd (other refl)

pub misread_all : {A E : Type 0} (f : A → List ℕ) (result : Result A E) (source : List ℕ) (tokens : TokenList) (error : ReadError) → Spells source tokens → depth_of tokens ≤ 128 → Occurs (λ e. Reads tokens (Err e)) error →
    IfOk result (λ known. f known ≡ []) → IfOk result (λ known. error ≢ Memory) → IfOk result (λ known. HasSets source (f known))
misread_all f (Ok known) source tokens error s shallow occurs none other =
    elim occurs [ inl e ↦ absurd (other e) | inr is_read ↦ misread_has source tokens error (f known) s shallow is_read other none ]
misread_all f (Err failed) source tokens error s shallow occurs none other = tt

-- the sets of the leaves of an analysis are those of its source
analysis_has : (source : List ℕ) (item : EnumValue) (span : Span) (analysis : Analysis) (sizes : List ℕ) → YieldsEnum source item span → IsEnumAnalysis item span (analysis_view analysis) →
    LeavesHaveSets analysis.leaves.items sizes → HasSets source sizes
analysis_has source item span analysis sizes given is sets =
    read {analysis = analysis_view analysis} {leaves = analysis.leaves.items}
    (record { enum = item; reads_as = subst (λ (at : Span). YieldsEnum source item at) is.is_span given; is_name = is.is_name; enum_reads = is.reads_as; is_type = is.is_type })
    refl sets

pub analysis_all : {A E : Type 0} (f : A → List ℕ) (result : Result A E) (source : List ℕ) (item : EnumValue) (span : Span) (analysis : Analysis) → YieldsEnum source item span → IsEnumAnalysis item span (analysis_view analysis) →
    IfOk result (λ known. LeavesHaveSets analysis.leaves.items (f known)) → IfOk result (λ known. HasSets source (f known))
analysis_all f (Ok known) source item span analysis given is sets = analysis_has source item span analysis (f known) given is sets
analysis_all f (Err failed) source item span analysis given is sets = tt

-- a size that does not pass the limit is within it
pub within : (size : ℕ) → (2 ^ 20 < size → ⊥) → size ≤ 2 ^ 20
within size h = elim (cases_lt (2 ^ 20) size) [ inl more ↦ absurd (h more) | inr most ↦ most ]
