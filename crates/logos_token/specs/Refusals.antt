-- The reasons why a source has no tokens.
use Rattle.std.specs.Prelude.{◌≡◌, ℕ, ◌<◌, List, length, Result, Ok, Err}
use Rattle.logos_token.specs.declared.token.reader.TokenError.{TokenError}
use Rattle.logos_token.specs.declared.token.reader.TokenError.TheVariants.{Lexical, LimitSource, LimitTokenNesting, Memory}
use Rattle.logos_token.specs.Tokens.{TokenList, depth_of}
use Rattle.logos_token.specs.Spelling.{Spells, IsUnreadable, IsTooDeep}

-- The condition on the source under which an error is returned.
abbrev pub IsRefusal : List ℕ → TokenError → Type 0
IsRefusal bytes (Lexical kind span) = IsUnreadable bytes kind span
IsRefusal bytes LimitSource = 16777216 < length bytes
IsRefusal bytes (LimitTokenNesting span) = IsTooDeep bytes span
IsRefusal bytes Memory = Unit {0}

-- If a source is refused for a lexical fault, it spells no tokens. If it is refused because too
-- many delimiters are open, all tokens that it spells are nested too deeply.
abbrev pub SpellsNothing : List ℕ → TokenError → Type 0
SpellsNothing bytes (Lexical kind span) = (tokens : TokenList) → Spells bytes tokens → ⊥
SpellsNothing bytes LimitSource = Unit {0}
SpellsNothing bytes (LimitTokenNesting span) = (tokens : TokenList) → Spells bytes tokens → 128 < depth_of tokens
SpellsNothing bytes Memory = Unit {0}

-- The result is this error.
abbrev pub IsErrOf : {T : Type 0} → Result T TokenError → TokenError → Type 0
IsErrOf (Ok value) error = ⊥
IsErrOf (Err other) error = other ≡ error
