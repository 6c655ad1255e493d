-- Refusals with one fault that ends the reading.
use Rattle.std.proofs.Common.{◌≡◌, ℕ, ◌≤◌, List, [], ◌∷◌, codes, refl, inl, inr, Result, Ok, Err, IfOk, IfErr}
use Rattle.logos_lexeme.specs.declared.lexeme.Span.{Span}
use Rattle.logos_token.specs.declared.error.fault_code.FaultCode.TheVariants as codes_of
use Rattle.logos_lexeme.specs.declared.lexeme.LexicalKind.{LexicalKind}
use Rattle.logos_token.specs.Spelling.{Spells, IsUnreadable, IsTooDeep}
use Rattle.logos_token.specs.Faults.{Fault}
use Rattle.logos_token.specs.Tokens.{TokenList, depth_of}
use Rattle.logos_token.proofs.reading.SpellingLaws.{spells-one}
use Rattle.logos_attribute.specs.Reports.{fault, only}
use Rattle.logos_enum.specs.declared.error.ReadError.{ReadError}
use Rattle.logos_enum.specs.declared.error.ReadError.TheVariants.{NotAnEnum, Grammar, TypeUnsupported, LimitTypeNesting, Memory as OutOfMemory}
use Rattle.logos_enum.specs.Enum.{Reads}
use Rattle.logos_enum.specs.Rules.{Occurs}
use Rattle.logos_parser.specs.Endings.{lexical_fault, IsMisread, IsShallow, EndsTokens, EndsReading, nesting_limit, unreadable, misread}
use Rattle.logos_parser.specs.Refusals.{Refuses}
use Rattle.logos_parser.specs.declared.refusal.Refusal.{Refusal}
use Rattle.logos_parser.specs.declared.refusal.Refusal.TheVariants.{Errors, Memory}

-- a property of the faults may be weakened
pub refuses_by : (P Q : List Fault → Type 0) → ((faults : List Fault) → P faults → Q faults) → (error : Refusal) → Refuses P error → Refuses Q error
refuses_by P Q h (Errors errors) r = h errors r
refuses_by P Q h Memory r = tt

-- one fault that ends the reading
abbrev pub OneEnds : List ℕ → List Fault → Type 0
OneEnds source faults = (ending : Fault) × EndsReading source ending × (faults ≡ ending ∷ [])

pub lexical_ends : (source : List ℕ) (kind : LexicalKind) (span : Span) (error : Refusal) → IsUnreadable source kind span →
    Refuses (λ faults. faults ≡ only (lexical_fault kind span)) error → Refuses (OneEnds source) error
lexical_ends source kind span error u r = refuses_by _ (OneEnds source) (λ faults e. (lexical_fault kind span, unreadable u refl, e)) error r

pub nesting_ends : (source : List ℕ) (span : Span) (error : Refusal) → IsTooDeep source span →
    Refuses (λ faults. faults ≡ only (fault codes_of.LimitTokenNesting (codes "limit LimitTokenNesting passed") span)) error → Refuses (OneEnds source) error
nesting_ends source span error u r = refuses_by _ (OneEnds source) (λ faults e. (fault codes_of.LimitTokenNesting (codes "limit LimitTokenNesting passed") span, nesting_limit u refl, e)) error r

-- tokens that are not an enum end the reading of their source
tokens_end : (source : List ℕ) (tokens : TokenList) (faults : List Fault) → Spells source tokens → depth_of tokens ≤ 128 → EndsTokens tokens faults → OneEnds source faults
tokens_end source tokens faults s shallow ends = go ends.error ends.reads ends.are
  where
    go : (error : ReadError) → Reads tokens (Err error) → IsMisread error faults → OneEnds source faults
    go (NotAnEnum span) reads are = (_, misread s shallow (record { error = NotAnEnum span; reads = reads; are = refl }), are)
    go (Grammar span) reads are = (_, misread s shallow (record { error = Grammar span; reads = reads; are = refl }), are)
    go (TypeUnsupported span) reads are = (_, misread s shallow (record { error = TypeUnsupported span; reads = reads; are = refl }), are)
    go (LimitTypeNesting span) reads are = (_, misread s shallow (record { error = LimitTypeNesting span; reads = reads; are = refl }), are)
    go OutOfMemory reads are = absurd are

-- the refusal of tokens that are not an enum
pub misread_ends : (tokens : TokenList) (error : ReadError) (out : Refusal) → Occurs (λ e. Reads tokens (Err e)) error → Refuses (IsMisread error) out →
    Refuses (EndsTokens tokens) out
misread_ends tokens error out occurs r = refuses_by (IsMisread error) (EndsTokens tokens) (λ faults are. go error occurs are) out r
  where
    go : (e : ReadError) {faults : List Fault} → Occurs (λ e. Reads tokens (Err e)) e → IsMisread e faults → EndsTokens tokens faults
    go (NotAnEnum span) occurs are = elim occurs [ inl e ↦ absurd (cc) | inr reads ↦ record { error = NotAnEnum span; reads = reads; are = are } ]
    go (Grammar span) occurs are = elim occurs [ inl e ↦ absurd (cc) | inr reads ↦ record { error = Grammar span; reads = reads; are = are } ]
    go (TypeUnsupported span) occurs are = elim occurs [ inl e ↦ absurd (cc) | inr reads ↦ record { error = TypeUnsupported span; reads = reads; are = are } ]
    go (LimitTypeNesting span) occurs are = elim occurs [ inl e ↦ absurd (cc) | inr reads ↦ record { error = LimitTypeNesting span; reads = reads; are = are } ]
    go OutOfMemory occurs are = absurd are

pub result_ends : {T : Type 0} (source : List ℕ) (tokens : TokenList) (result : Result T Refusal) → Spells source tokens → depth_of tokens ≤ 128 →
    IfErr result (Refuses (EndsTokens tokens)) → IfErr result (Refuses (OneEnds source))
result_ends source tokens (Ok value) s shallow h = tt
result_ends source tokens (Err error) s shallow h = refuses_by (EndsTokens tokens) (OneEnds source) (λ faults e. tokens_end source tokens faults s shallow e) error h

-- a source that spells tokens within the limit of nesting spells no others
pub shallow_result : {T E : Type 0} (source : List ℕ) (tokens : TokenList) (result : Result T E) → Spells source tokens → depth_of tokens ≤ 128 →
    IfOk result (λ read. IsShallow source)
shallow_result source tokens (Ok value) s shallow = λ other t. rw (← spells-one source tokens other s t) shallow
shallow_result source tokens (Err error) s shallow = tt
