-- Measures and fronts of runs.
use Rattle.std.proofs.Common.{◌≡◌, ℕ, ◌<◌, arith, refl, ap, sym, ◌∙◌}
use Rattle.logos_lexeme.specs.declared.lexeme.Span.{Span}
use Rattle.logos_lexeme.specs.declared.lexeme.Delimiter.{Delimiter}
use Rattle.logos_token.specs.Tokens.{Token, identifier, punctuation, literal, doc, group, TokenList, none, also, append, IsRestOf, span_of, end_of, rest_of, token_count, count_of}

pub token_count-positive : (token : Token) → 0 < token_count token
token_count-positive (identifier text span) = omega arith
token_count-positive (punctuation character spacing span) = omega arith
token_count-positive (literal text span) = omega arith
token_count-positive (doc text span) = omega arith
token_count-positive (group delimiter span inside) = omega arith

-- after its first token a run has fewer tokens
pub count_of-rest : (tokens : TokenList) (token : Token) (rest : TokenList) → tokens ≡ also token rest → count_of rest < count_of tokens
count_of-rest tokens token rest is = let positive = token_count-positive token in rw is (omega arith)

-- inside a group a run has fewer tokens
pub count_of-inside : (tokens : TokenList) (delimiter : Delimiter) (span : Span) (inside rest : TokenList) → tokens ≡ also (group delimiter span inside) rest → count_of inside < count_of tokens
count_of-inside tokens delimiter span inside rest is = rw is (omega arith)

-- the end of a run, of which a part that ends here is left out
abbrev pub run_end : ℕ → TokenList → ℕ
run_end end none = end
run_end end (also token rest) = run_end (span_of token).to rest

pub end_of-run_end : (token : Token) (rest : TokenList) → end_of token rest ≡ run_end (span_of token).to rest
end_of-run_end token none = refl
end_of-run_end token (also next rest) = end_of-run_end next rest

-- a run is left of itself after no tokens
pub IsRestOf-self : (run : TokenList) → IsRestOf run run
IsRestOf-self run = record { front = none; is = refl }

pub append-also : (front : TokenList) (token : Token) (back : TokenList) → append (append front (also token none)) back ≡ append front (also token back)
append-also none token back = refl
append-also (also first front) token back = ap (also first) (append-also front token back)

-- the rest after one token more
pub IsRestOf-rest : (run rest : TokenList) → IsRestOf run rest → IsRestOf run (rest_of rest)
IsRestOf-rest run none r = r
IsRestOf-rest run (also token rest) r = record { front = append r.front (also token none); is = r.is ∙ sym (append-also r.front token rest) }
