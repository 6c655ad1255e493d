-- The errors of `generate` and `lex_source`.
use Rattle.std.specs.Prelude.{◌≡◌, ℕ, List, true, IsTrue}
use Rattle.std.specs.Str.{IsUtf8, IsValidUpTo}
use Rattle.logos_automaton.specs.Munch.{Rule}
use Rattle.logos_code.specs.Code.{CodeValue}
use Rattle.logos_codegen.specs.Source.{IsAccepted, IsRefused}
use Rattle.logos_parser.specs.declared.refusal.Refusal.{Refusal}
use Rattle.logos_parser.specs.declared.refusal.Refusal.TheVariants as refusals
use Rattle.logos_codegen.specs.declared.lexing.LexSourceError.{LexSourceError}
use Rattle.logos_codegen.specs.declared.lexing.LexSourceError.TheVariants as errors

-- The reason that an input is not lexed: the source has these faults; or the source is accepted in
-- UTF-8 mode and the input is not UTF-8, with the length of its longest prefix that is; or memory
-- ran out.
abbrev pub IsJust : List ℕ → List ℕ → LexSourceError → Type 0
IsJust source input (errors.Refused faults) = IsRefused source faults
IsJust source input (errors.NotUtf8 valid_up_to) = ((rules : List Rule) × IsAccepted source rules true) × (¬ IsUtf8 input) × IsValidUpTo input valid_up_to
IsJust source input errors.Memory = Unit {0}

-- The code is in UTF-8 mode and the input is not UTF-8, with the length of its longest prefix that
-- is; or memory ran out.
abbrev pub IsUnlexed : CodeValue → List ℕ → LexSourceError → Type 0
IsUnlexed code input (errors.Refused faults) = ⊥
IsUnlexed code input (errors.NotUtf8 valid_up_to) = IsTrue code.utf8 × (¬ IsUtf8 input) × IsValidUpTo input valid_up_to
IsUnlexed code input errors.Memory = Unit {0}

-- The source is not refused.
abbrev pub IsNoRefusal : LexSourceError → Type 0
IsNoRefusal (errors.Refused faults) = ⊥
IsNoRefusal (errors.NotUtf8 valid_up_to) = Unit {0}
IsNoRefusal errors.Memory = Unit {0}

-- The refusal of a source as an error of lexing.
abbrev pub IsThatRefusal : Refusal → LexSourceError → Type 0
IsThatRefusal (refusals.Errors faults) error = error ≡ errors.Refused faults
IsThatRefusal refusals.Memory error = error ≡ errors.Memory
