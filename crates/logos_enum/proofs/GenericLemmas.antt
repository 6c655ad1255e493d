-- Generic parameters.
use Rattle.std.proofs.Common.{◌≡◌, inl, inr, true, Err}
use Rattle.logos_token.specs.Tokens.{TokenList, rest_of}
use Rattle.logos_enum.specs.declared.error.ReadError.{ReadError}
use Rattle.logos_enum.specs.Marks.{begins_with, less}
use Rattle.logos_enum.specs.Rules.{Occurs}
use Rattle.logos_enum.specs.Generics.{parameters, Generics}
use Rattle.logos_enum.specs.Generics.Generics.{listed}

-- the tokens after `<`, as tokens of the whole
pub generics-occur : (run inside : TokenList) (error : ReadError) → begins_with less run ≡ true → inside ≡ rest_of run →
    Occurs (λ e. parameters inside (Err e)) error → Occurs (λ e. Generics run (Err e)) error
generics-occur run inside error b e (inl m) = inl m
generics-occur run inside error b e (inr h) = inr (listed b (rw e at h))
