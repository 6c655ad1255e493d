-- The end of the tokens of a text.
use Rattle.std.proofs.Common.{◌≡◌, ◌∙◌, ℕ, Some, ap, subst, sym}
use Rattle.logos_layout.specs.Layout.{EndsWithBraces, braces_end}
use Rattle.logos_layout.specs.Layout.EndsWithBraces.{last}
use Rattle.logos_token.specs.Tokens.{Token, TokenList, also, none, rest_of}

-- a run of one token, which is braces
pub last_of : (to : ℕ) (token : Token) (run rest : TokenList) → run ≡ also token (rest_of run) → rest ≡ rest_of run → rest ≡ none → braces_end token ≡ Some to → EndsWithBraces to run
last_of to token run rest e r n b = subst (EndsWithBraces to) (sym (e ∙ ap (also token) (sym r ∙ n))) (last b)
