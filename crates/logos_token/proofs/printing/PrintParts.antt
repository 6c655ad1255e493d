-- The printed text of tokens from their lexemes, and tokens from lexemes that are equal apart from
-- their spans.
use Rattle.std.proofs.Common.{◌≡◌, ℕ, Bool, true, false, List, [], ◌∷◌, ◌++◌, map, fold, refl, sym, ◌∙◌, ap, append_assoc, append-nil}
use Rattle.std.proofs.lemmas.Bool.{true≢false}
use Rattle.logos_lexeme.specs.declared.lexeme.Span.{Span}
use Rattle.logos_lexeme.specs.declared.lexeme.Delimiter.{Delimiter}
use Rattle.logos_token.specs.Tokens.{Token, identifier, punctuation, literal, doc, group, TokenList, none, also}
use Rattle.logos_token.specs.Spelling.{Lexeme, leaf, opens, closes, lexemes, token_lexemes}
use Rattle.logos_token.specs.Printing.{Part, opening_text, closing_text, spaced, token_parts, run_parts, print_part, printed}
use Rattle.logos_token.specs.PrintedAgain.{no_span, bare_token, bare}
use Rattle.logos_token.proofs.reading.NestingLemmas.{run-lexemes}

-- the parts of a lexeme
abbrev pub lexeme_parts : Lexeme → List Part
lexeme_parts (leaf token) = token_parts token
lexeme_parts (opens delimiter from) = spaced (opening_text delimiter) ∷ []
lexeme_parts (closes delimiter to) = spaced (closing_text delimiter) ∷ []

abbrev pub parts : List Lexeme → List Part
parts [] = []
parts (l ∷ ls) = lexeme_parts l ++ parts ls

pub parts-append : (front back : List Lexeme) → parts (front ++ back) ≡ parts front ++ parts back
parts-append [] back = refl
parts-append (l ∷ ls) back = ap (λ ps. lexeme_parts l ++ ps) (parts-append ls back) ∙ sym (append_assoc (lexeme_parts l) (parts ls) (parts back))

-- the parts of a run are those of its lexemes
pub run_parts-lexemes : (tokens : TokenList) → run_parts tokens ≡ parts (lexemes tokens)
run_parts-lexemes none = refl
run_parts-lexemes (also (identifier text span) rest) = ap (λ ps. token_parts (identifier text span) ++ ps) (run_parts-lexemes rest)
run_parts-lexemes (also (punctuation character spacing span) rest) = ap (λ ps. token_parts (punctuation character spacing span) ++ ps) (run_parts-lexemes rest)
run_parts-lexemes (also (literal text span) rest) = ap (λ ps. token_parts (literal text span) ++ ps) (run_parts-lexemes rest)
run_parts-lexemes (also (doc text span) rest) = ap (λ ps. token_parts (doc text span) ++ ps) (run_parts-lexemes rest)
run_parts-lexemes (also (group delimiter span inside) rest) =
    let last = spaced (closing_text delimiter) ∷ [] in
    ap (λ ps. spaced (opening_text delimiter) ∷ ((ps ++ last) ++ run_parts rest)) (run_parts-lexemes inside)
    ∙ ap (λ ps. spaced (opening_text delimiter) ∷ ((parts (lexemes inside) ++ last) ++ ps)) (run_parts-lexemes rest)
    ∙ ap (λ ps. spaced (opening_text delimiter) ∷ (ps ++ parts (lexemes rest))) (sym (parts-append (lexemes inside) (closes delimiter span.to ∷ [])))
    ∙ sym (ap (λ ps. spaced (opening_text delimiter) ∷ ps) (parts-append (lexemes inside ++ closes delimiter span.to ∷ []) (lexemes rest)))

-- the text of parts after this gap
abbrev pub after : List ℕ → List Part → List ℕ
after gap [] = []
after gap (part ∷ rest) = gap ++ (part.text ++ after part.gap rest)

printed-after : (ps : List Part) (text gap : List ℕ) → (fold print_part (record { text = text; gap = gap }) ps).text ≡ text ++ after gap ps
printed-after [] text gap = sym (append-nil text)
printed-after (part ∷ rest) text gap =
    printed-after rest ((text ++ gap) ++ part.text) part.gap
    ∙ append_assoc (text ++ gap) part.text (after part.gap rest)
    ∙ append_assoc text gap (part.text ++ after part.gap rest)

-- the printed text, lexeme by lexeme
pub printed-lexemes : (tokens : TokenList) → printed tokens ≡ after [] (parts (lexemes tokens))
printed-lexemes tokens = printed-after (run_parts tokens) [] [] ∙ ap (after []) (run_parts-lexemes tokens)

-- lexemes without their offsets
abbrev pub bare_lexeme : Lexeme → Lexeme
bare_lexeme (leaf token) = leaf (bare_token token)
bare_lexeme (opens delimiter from) = opens delimiter 0
bare_lexeme (closes delimiter to) = closes delimiter 0

-- the tokens of lexemes that are those of other tokens, spans aside
pub record Rebuilt (tokens : TokenList) (ls more : List Lexeme) : Type 0 where
  pub again : TokenList
  pub rest : List Lexeme
  pub is : ls ≡ lexemes again ++ rest
  pub same : bare again ≡ bare tokens
  pub left : map bare_lexeme rest ≡ map bare_lexeme more

abbrev is_group : Token → Bool
is_group (identifier text span) = false
is_group (punctuation character spacing span) = false
is_group (literal text span) = false
is_group (doc text span) = false
is_group (group delimiter span inside) = true

bare-leaf : (token : Token) → is_group (bare_token token) ≡ false → token_lexemes token ≡ leaf token ∷ []
bare-leaf (identifier text span) e = refl
bare-leaf (punctuation character spacing span) e = refl
bare-leaf (literal text span) e = refl
bare-leaf (doc text span) e = refl
bare-leaf (group delimiter span inside) e = absurd (true≢false e)

rebuild-leaf : (token : Token) (rest : TokenList) (ls more : List Lexeme) → is_group (bare_token token) ≡ false → map bare_lexeme ls ≡ leaf (bare_token token) ∷ map bare_lexeme (lexemes rest ++ more) →
    ((left : List Lexeme) → map bare_lexeme left ≡ map bare_lexeme (lexemes rest ++ more) → Rebuilt rest left more) → Rebuilt (also token rest) ls more
rebuild-leaf token rest [] more plain e go = absurd (cc)
rebuild-leaf token rest (opens delimiter from ∷ ls) more plain e go = absurd (cc)
rebuild-leaf token rest (closes delimiter to ∷ ls) more plain e go = absurd (cc)
rebuild-leaf token rest (leaf t ∷ ls) more plain e go =
    let same : bare_token t ≡ bare_token token = cc in
    let others : map bare_lexeme ls ≡ map bare_lexeme (lexemes rest ++ more) = cc in
    let r = go ls others in
    let alone : token_lexemes t ≡ leaf t ∷ [] = bare-leaf t (ap is_group same ∙ plain) in
    record {
      again = also t r.again;
      rest = r.rest;
      is = ap (λ xs. leaf t ∷ xs) r.is ∙ sym (ap (λ xs. (xs ++ lexemes r.again) ++ r.rest) alone);
      same = ap (λ x. also x (bare r.again)) same ∙ ap (λ xs. also (bare_token token) xs) r.same;
      left = r.left;
    }

rebuild-close : (delimiter : Delimiter) (span : Span) (inside rest : TokenList) (d : Delimiter) (from : ℕ) (ls ms more : List Lexeme) (again : TokenList) → d ≡ delimiter → ls ≡ lexemes again ++ ms → bare again ≡ bare inside →
    map bare_lexeme ms ≡ closes delimiter 0 ∷ map bare_lexeme (lexemes rest ++ more) → ((left : List Lexeme) → map bare_lexeme left ≡ map bare_lexeme (lexemes rest ++ more) → Rebuilt rest left more) →
    Rebuilt (also (group delimiter span inside) rest) (opens d from ∷ ls) more
rebuild-close delimiter span inside rest d from ls [] more again same is bares e go = absurd (cc)
rebuild-close delimiter span inside rest d from ls (leaf t ∷ ms) more again same is bares e go = absurd (cc)
rebuild-close delimiter span inside rest d from ls (opens d' from' ∷ ms) more again same is bares e go = absurd (cc)
rebuild-close delimiter span inside rest d from ls (closes d' to ∷ ms) more again same is bares e go =
    let same' : d' ≡ delimiter = cc in
    let others : map bare_lexeme ms ≡ map bare_lexeme (lexemes rest ++ more) = cc in
    let r = go ms others in
    let spot : Span = record { from = from; to = to } in
    record {
      again = also (group delimiter spot again) r.again;
      rest = r.rest;
      is = ap (λ x. opens x from ∷ ls) same ∙ ap (λ xs. opens delimiter from ∷ xs) is ∙ ap (λ x. opens delimiter from ∷ (lexemes again ++ (closes x to ∷ ms))) same'
          ∙ ap (λ xs. opens delimiter from ∷ (lexemes again ++ (closes delimiter to ∷ xs))) r.is ∙ sym (run-lexemes delimiter spot again r.again r.rest);
      same = ap (λ xs. also (group delimiter no_span xs) (bare r.again)) bares ∙ ap (λ xs. also (group delimiter no_span (bare inside)) xs) r.same;
      left = r.left;
    }

rebuild-open : (delimiter : Delimiter) (span : Span) (inside rest : TokenList) (ls more : List Lexeme) →
    map bare_lexeme ls ≡ opens delimiter 0 ∷ map bare_lexeme (lexemes inside ++ (closes delimiter span.to ∷ (lexemes rest ++ more))) →
    ((left : List Lexeme) → map bare_lexeme left ≡ map bare_lexeme (lexemes inside ++ (closes delimiter span.to ∷ (lexemes rest ++ more))) → Rebuilt inside left (closes delimiter span.to ∷ (lexemes rest ++ more))) →
    ((left : List Lexeme) → map bare_lexeme left ≡ map bare_lexeme (lexemes rest ++ more) → Rebuilt rest left more) →
    Rebuilt (also (group delimiter span inside) rest) ls more
rebuild-open delimiter span inside rest [] more e enter go = absurd (cc)
rebuild-open delimiter span inside rest (leaf t ∷ ls) more e enter go = absurd (cc)
rebuild-open delimiter span inside rest (closes d to ∷ ls) more e enter go = absurd (cc)
rebuild-open delimiter span inside rest (opens d from ∷ ls) more e enter go =
    let same : d ≡ delimiter = cc in
    let others : map bare_lexeme ls ≡ map bare_lexeme (lexemes inside ++ (closes delimiter span.to ∷ (lexemes rest ++ more))) = cc in
    let r = enter ls others in
    rebuild-close delimiter span inside rest d from ls r.rest more r.again same r.is r.same r.left go

pub rebuild : (tokens : TokenList) (ls more : List Lexeme) → map bare_lexeme ls ≡ map bare_lexeme (lexemes tokens ++ more) → Rebuilt tokens ls more
rebuild none ls more e = record { again = none; rest = ls; is = refl; same = refl; left = e }
rebuild (also (identifier text span) rest) ls more e = rebuild-leaf (identifier text span) rest ls more refl e (λ left f. rebuild rest left more f)
rebuild (also (punctuation character spacing span) rest) ls more e = rebuild-leaf (punctuation character spacing span) rest ls more refl e (λ left f. rebuild rest left more f)
rebuild (also (literal text span) rest) ls more e = rebuild-leaf (literal text span) rest ls more refl e (λ left f. rebuild rest left more f)
rebuild (also (doc text span) rest) ls more e = rebuild-leaf (doc text span) rest ls more refl e (λ left f. rebuild rest left more f)
rebuild (also (group delimiter span inside) rest) ls more e =
    rebuild-open delimiter span inside rest ls more (e ∙ ap (map bare_lexeme) (run-lexemes delimiter span inside rest more))
    (λ left f. rebuild inside left (closes delimiter span.to ∷ (lexemes rest ++ more)) f) (λ left f. rebuild rest left more f)

empty_lexemes : (ls : List Lexeme) → map bare_lexeme ls ≡ [] → ls ≡ []
empty_lexemes [] e = refl
empty_lexemes (l ∷ ls) e = absurd (cc)

-- tokens from lexemes that are the same, spans aside
pub rebuilt-whole : (tokens : TokenList) (ls : List Lexeme) → map bare_lexeme ls ≡ map bare_lexeme (lexemes tokens) → (again : TokenList) × (lexemes again ≡ ls) × (bare again ≡ bare tokens)
rebuilt-whole tokens ls e =
    let r = rebuild tokens ls [] (e ∙ sym (ap (map bare_lexeme) (append-nil (lexemes tokens)))) in
    (r.again, sym (r.is ∙ ap (λ xs. lexemes r.again ++ xs) (empty_lexemes r.rest r.left) ∙ append-nil (lexemes r.again)), r.same)
