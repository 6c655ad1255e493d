-- Rests of a run of tokens.
use Rattle.std.proofs.Common.{refl, sym, ◌∙◌}
use Rattle.logos_token.specs.Tokens.{TokenList, none, also, append, IsRestOf}
use Rattle.logos_laws.proofs.spans.RuleParts.{Rests}
use Rattle.logos_laws.proofs.spans.TokenParts.{append_append}

-- a run is a rest of the whole, and each rest of one is one
abbrev pub Back : TokenList → TokenList → Type 0
Back tokens run = IsRestOf tokens run

pub back_self : (tokens : TokenList) → Back tokens tokens
back_self tokens = record { front = none; is = refl }

pub back_rests : (tokens : TokenList) → Rests (Back tokens)
back_rests tokens token rest r = record { front = append r.front (also token none); is = r.is ∙ sym (append_append r.front (also token none) rest) }
