-- The text around a lexer, part by part.
use Rattle.std.proofs.Common.{◌≡◌, ℕ, List, Option, refl}
use Rattle.logos_text.specs.Fronts.{AroundValue}
use Rattle.logos_token.specs.Tokens.{TokenList}
use Rattle.logos_type.specs.Parts.{Tree}

abbrev parts : Option TokenList → Option TokenList → Option Tree → Option TokenList → List ℕ → AroundValue
parts logos error error_type extras source = record { logos = logos; error = error; error_type = error_type; extras = extras; source = source }

pub arounds : {logos logos2 error error2 extras extras2 : Option TokenList} {error_type error_type2 : Option Tree} {source source2 : List ℕ} → logos ≡ logos2 → error ≡ error2 → error_type ≡ error_type2 → extras ≡ extras2 → source ≡ source2 →
    parts logos error error_type extras source ≡ parts logos2 error2 error_type2 extras2 source2
arounds a b c d e = rw (a, b, c, d, e) refl
