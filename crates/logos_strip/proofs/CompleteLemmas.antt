-- A source that spells an enum within the limits is not refused.
use Rattle.std.proofs.Common.{◌≡◌, ℕ, List, Result, Ok, Err, IfOk, IfErr, arith}
use Rattle.logos_token.specs.Faults.{Fault}
use Rattle.logos_token.specs.Spelling.{Spells}
use Rattle.logos_token.specs.Tokens.{TokenList}
use Rattle.logos_token.proofs.reading.SpellingLaws.{spells-one, unreadable-excludes, deep-excludes}
use Rattle.logos_enum.specs.Enum.{Reads}
use Rattle.logos_enum.specs.EnumValues.{EnumValue}
use Rattle.logos_enum.proofs.EnumOnce.{once-reads}
use Rattle.logos_parser.specs.Endings.{EndsTokens, EndsReading, source_limit, nesting_limit, unreadable, misread}
use Rattle.logos_parser.specs.Refusals.{Refuses, IsMemory}
use Rattle.logos_parser.specs.declared.refusal.Refusal.{Refusal}
use Rattle.logos_parser.specs.declared.refusal.Refusal.TheVariants.{Errors, Memory}
use Rattle.logos_parser.proofs.RefusalLemmas.{OneEnds}
use Rattle.logos_strip.specs.Results.{IsStripped, SpellsEnum}
use Rattle.logos_strip.specs.Stripping.{stripped}

-- tokens of an enum do not end the reading
tokens_exclude : (tokens : TokenList) (value : EnumValue) (faults : List Fault) → Reads tokens (Ok value) → EndsTokens tokens faults → ⊥
tokens_exclude tokens value faults read ends =
    let same : Ok value ≡ Err ends.error = once-reads tokens _ _ read ends.reads in
    absurd (cc)

ends_exclude : (source : List ℕ) (fault : Fault) → SpellsEnum source → EndsReading source fault → ⊥
ends_exclude source fault whole (source_limit l is) = let s = whole.short in omega arith
ends_exclude source fault whole (nesting_limit deep is) =
    let more = deep-excludes source _ whole.tokens deep whole.spelled in
    let most = whole.shallow in
    omega arith
ends_exclude source fault whole (unreadable u is) = unreadable-excludes source _ _ whole.tokens u whole.spelled
ends_exclude source fault whole (misread {tokens} s shallow m) =
    let same = spells-one source whole.tokens tokens whole.spelled s in
    tokens_exclude tokens whole.enum _ (rw same at whole.reads) m

pub not_refused : (source : List ℕ) (refusal : Refusal) → SpellsEnum source → Refuses (OneEnds source) refusal → IsMemory refusal
not_refused source (Errors faults) whole r = ends_exclude source r.0 whole r.1
not_refused source Memory whole r = tt

pub result_not_refused : {T : Type 0} (source : List ℕ) (result : Result T Refusal) → SpellsEnum source → IfErr result (Refuses (OneEnds source)) → IfErr result IsMemory
result_not_refused source (Ok value) whole r = tt
result_not_refused source (Err error) whole r = not_refused source error whole r

-- the rest of the tokens of a source that spells an enum
pub known_stripped : {A E : Type 0} (f : A → TokenList) (source : List ℕ) (tokens : TokenList) (result : Result A E) → SpellsEnum source → Spells source tokens →
    IfOk result (λ left. f left ≡ stripped tokens) → IfOk result (λ left. IsStripped source (f left))
known_stripped f source tokens (Ok left) whole s is =
    let same = spells-one source whole.tokens tokens whole.spelled s in
    record { tokens = tokens; spelled = s; stripped = record { enum = whole.enum; reads = rw same at whole.reads; is = is } }
known_stripped f source tokens (Err error) whole s is = tt
