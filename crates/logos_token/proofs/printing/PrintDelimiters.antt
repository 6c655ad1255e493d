-- The delimiters by their characters.
use Rattle.std.proofs.Common.{◌≡◌, ℕ, ◌<◌, ◌==◌, [], ◌∷◌, Option, Some, MatchOption, refl, subst, arith}
use Rattle.std.proofs.lemmas.Bool.{eqb-true, cond_both}
use Rattle.logos_lexeme.specs.LexemeOpenings.{delimiter_kind}
use Rattle.logos_token.specs.Printing.{opening_text, closing_text}
use Rattle.logos_lexeme.specs.declared.lexeme.Delimiter.{Delimiter}
use Rattle.logos_lexeme.specs.declared.lexeme.Delimiter.TheVariants.{Parenthesis, Bracket, Brace}
use Rattle.logos_lexeme.specs.declared.lexeme.LexemeKind.{LexemeKind}
use Rattle.logos_lexeme.specs.declared.lexeme.LexemeKind.TheVariants.{Opening as OpeningKind, Closing}

-- delimiters
pub data IsDelimiter (c : ℕ) : LexemeKind → Type 0 where
  opening : (d : Delimiter) → opening_text d ≡ c ∷ [] → c < 128 → IsDelimiter c (OpeningKind d)
  closing : (d : Delimiter) → closing_text d ≡ c ∷ [] → c < 128 → IsDelimiter c (Closing d)

abbrev Delimits : ℕ → Option LexemeKind → Type 0
Delimits c o = MatchOption o (Unit {0}) (IsDelimiter c)

delimits : (c : ℕ) → Delimits c (delimiter_kind c)
unfolding delimiter_kind
delimits c =
    cond_both (c == 40) _ _ (Delimits c) (λ e. let f = eqb-true c 40 e in opening Parenthesis (rw f refl) (omega arith)) (λ _.
    cond_both (c == 41) _ _ (Delimits c) (λ e. let f = eqb-true c 41 e in closing Parenthesis (rw f refl) (omega arith)) (λ _.
    cond_both (c == 91) _ _ (Delimits c) (λ e. let f = eqb-true c 91 e in opening Bracket (rw f refl) (omega arith)) (λ _.
    cond_both (c == 93) _ _ (Delimits c) (λ e. let f = eqb-true c 93 e in closing Bracket (rw f refl) (omega arith)) (λ _.
    cond_both (c == 123) _ _ (Delimits c) (λ e. let f = eqb-true c 123 e in opening Brace (rw f refl) (omega arith)) (λ _.
    cond_both (c == 125) _ _ (Delimits c) (λ e. let f = eqb-true c 125 e in closing Brace (rw f refl) (omega arith)) (λ _. tt))))))

pub is_delimiter : (c : ℕ) (kind : LexemeKind) → delimiter_kind c ≡ Some kind → IsDelimiter c kind
is_delimiter c kind e = subst (Delimits c) e (delimits c)
