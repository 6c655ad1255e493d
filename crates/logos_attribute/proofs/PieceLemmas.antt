-- Pieces, taken one at a time.
use Rattle.std.proofs.Common.{◌≡◌, Bool, true, false, List, ◌∷◌, ◌∙◌, ap, sym, refl}
use Rattle.logos_token.specs.Tokens.{Token, TokenList, none, also, append, rest_of, IsRestOf}
use Rattle.logos_token.specs.Punctuation.{is_alone}
use Rattle.logos_attribute.specs.Pieces.{comma, Piece, up_to_comma, after_comma, pieces, through_comma, unnamed}
use Rattle.logos_attribute.specs.inside.Cutting.{first_run}

-- the rest after some tokens
abbrev pub rest_by : (run front rest : TokenList) → run ≡ append front rest → IsRestOf run rest
rest_by run front rest e = record { front = front; is = e }

pub rest_first : (run end : TokenList) → rest_of run ≡ append (up_to_comma (rest_of run)) end → run ≡ append (first_run run) end
rest_first none end e = e
rest_first (also token rest) end e = ap (also token) e

through-one : (piece : TokenList → Piece) (token : Token) (rest : TokenList) (b : Bool) → is_alone comma token ≡ b →
    through_comma (λ run. piece (also token run)) rest ≡ piece (also token (up_to_comma rest)) ∷ pieces (after_comma rest) →
    through_comma piece (also token rest) ≡ piece (up_to_comma (also token rest)) ∷ pieces (after_comma (also token rest))
through-one piece token rest true e h = rw e refl
through-one piece token rest false e h = rw e h

-- a piece through the next comma
pub through_cut : (piece : TokenList → Piece) (run : TokenList) → through_comma piece run ≡ piece (up_to_comma run) ∷ pieces (after_comma run)
through_cut piece none = refl
through_cut piece (also token rest) = through-one piece token rest (is_alone comma token) refl (through_cut (λ run. piece (also token run)) rest)

pub through_is : (piece : TokenList → Piece) (run front after : TokenList) (left : List Piece) → front ≡ up_to_comma run → after ≡ after_comma run → left ≡ pieces after →
    through_comma piece run ≡ piece front ∷ left
through_is piece run front after left e f g = rw (e, g, f) (through_cut piece run)

-- a piece with its first token
pub through_first : (whole front after : TokenList) (left : List Piece) (first : Token) (rest : TokenList) → front ≡ first_run whole → after ≡ after_comma (rest_of whole) → left ≡ pieces after →
    whole ≡ also first rest → through_comma (λ run. unnamed (also first run)) rest ≡ unnamed front ∷ left
through_first whole front after left first rest e f g h =
    through_is (λ run. unnamed (also first run)) rest (up_to_comma rest) after left refl (rw h at f) g ∙ ap (λ (run : TokenList). unnamed run ∷ left) (sym (rw h at e))
