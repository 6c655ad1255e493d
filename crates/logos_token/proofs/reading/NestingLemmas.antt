-- Delimiters in the lexemes of tokens.
use Rattle.std.proofs.Common.{◌≡◌, ℕ, suc, ◌+◌, ◌-◌, ◌≤◌, max, Bool, true, false, cond, List, [], ◌∷◌, ◌++◌, length, Option, Some, None, arith, sym, ◌∙◌, subst, ap, refl, append_assoc}
use Rattle.std.proofs.lemmas.List.{append-nil}
use Rattle.logos_lexeme.specs.declared.lexeme.Span.{Span}
use Rattle.logos_lexeme.specs.declared.lexeme.Delimiter.{Delimiter}
use Rattle.logos_lexeme.specs.declared.lexeme.Delimiter.TheVariants.{Parenthesis, Bracket, Brace}
use Rattle.logos_token.specs.Tokens.{identifier, punctuation, literal, doc, group, TokenList, none, also, append, depth_of}
use Rattle.logos_token.proofs.reading.CountLemmas.{append-also}
use Rattle.logos_token.specs.Spelling.{Lexeme, leaf, opens, closes, lexemes, token_lexemes, is_partner, opened, most_open}

pub is_partner-self : (delimiter : Delimiter) → is_partner delimiter delimiter ≡ true
is_partner-self Parenthesis = refl
is_partner-self Bracket = refl
is_partner-self Brace = refl

-- a group in front of other lexemes
group-lexemes : (delimiter : Delimiter) (span : Span) (inside : TokenList) (more : List Lexeme) →
    token_lexemes (group delimiter span inside) ++ more ≡ opens delimiter span.from ∷ (lexemes inside ++ (closes delimiter span.to ∷ more))
group-lexemes delimiter span inside more = ap (λ ls. opens delimiter span.from ∷ ls) (append_assoc (lexemes inside) (closes delimiter span.to ∷ []) more)

-- a group and other tokens in front of other lexemes
pub run-lexemes : (delimiter : Delimiter) (span : Span) (inside rest : TokenList) (more : List Lexeme) →
    lexemes (also (group delimiter span inside) rest) ++ more ≡ opens delimiter span.from ∷ (lexemes inside ++ (closes delimiter span.to ∷ (lexemes rest ++ more)))
run-lexemes delimiter span inside rest more =
    append_assoc (token_lexemes (group delimiter span inside)) (lexemes rest) more ∙ group-lexemes delimiter span inside (lexemes rest ++ more)

-- after tokens the same delimiters are open as in front
pub opened-lexemes : (tokens : TokenList) (around : List (Delimiter × ℕ)) (more : List Lexeme) → opened around (lexemes tokens ++ more) ≡ opened around more
opened-lexemes none around more = refl
opened-lexemes (also (identifier text span) rest) around more = opened-lexemes rest around more
opened-lexemes (also (punctuation character spacing span) rest) around more = opened-lexemes rest around more
opened-lexemes (also (literal text span) rest) around more = opened-lexemes rest around more
opened-lexemes (also (doc text span) rest) around more = opened-lexemes rest around more
opened-lexemes (also (group delimiter span inside) rest) around more =
    ap (opened around) (run-lexemes delimiter span inside rest more)
    ∙ opened-lexemes inside ((delimiter, span.from) ∷ around) (closes delimiter span.to ∷ (lexemes rest ++ more))
    ∙ rw (is_partner-self delimiter) (opened-lexemes rest around more)

pub most_open-least : (n : ℕ) (ls : List Lexeme) → n ≤ most_open n ls
most_open-least n [] = omega arith
most_open-least n (leaf token ∷ rest) = most_open-least n rest
most_open-least n (opens delimiter from ∷ rest) = omega (arith, most_open-least (n + 1) rest)
most_open-least n (closes delimiter to ∷ rest) = omega arith

-- tokens open as many more delimiters as the depth of their groups
pub most_open-lexemes : (tokens : TokenList) (n : ℕ) (more : List Lexeme) → most_open n (lexemes tokens ++ more) ≡ max (n + depth_of tokens) (most_open n more)
most_open-lexemes none n more = omega (arith, most_open-least n more)
most_open-lexemes (also (identifier text span) rest) n more = omega (arith, most_open-lexemes rest n more)
most_open-lexemes (also (punctuation character spacing span) rest) n more = omega (arith, most_open-lexemes rest n more)
most_open-lexemes (also (literal text span) rest) n more = omega (arith, most_open-lexemes rest n more)
most_open-lexemes (also (doc text span) rest) n more = omega (arith, most_open-lexemes rest n more)
most_open-lexemes (also (group delimiter span inside) rest) n more =
    let afterward : most_open (n + 1 - 1) (lexemes rest ++ more) ≡ max (n + depth_of rest) (most_open n more) = let e : n + 1 - 1 ≡ n = omega arith in rw e (most_open-lexemes rest n more) in
    let within = most_open-lexemes inside (n + 1) (closes delimiter span.to ∷ (lexemes rest ++ more)) in
    let least = most_open-least n more in
    ap (most_open n) (run-lexemes delimiter span inside rest more) ∙ within ∙ omega (arith, afterward, least)

closed-append : (front back : List Lexeme) (around afterward : List (Delimiter × ℕ)) (partner : Bool) → (opened around front ≡ Some afterward → opened around (front ++ back) ≡ opened afterward back) →
    cond partner (opened around front) None ≡ Some afterward → cond partner (opened around (front ++ back)) None ≡ opened afterward back
closed-append front back around afterward true goes is = goes is
closed-append front back around afterward false goes is = cc

pub opened-append : (front back : List Lexeme) (around afterward : List (Delimiter × ℕ)) → opened around front ≡ Some afterward → opened around (front ++ back) ≡ opened afterward back
opened-append [] back around afterward is = let e : around ≡ afterward = cc in rw e refl
opened-append (leaf token ∷ front) back around afterward is = opened-append front back around afterward is
opened-append (opens delimiter from ∷ front) back around afterward is = opened-append front back ((delimiter, from) ∷ around) afterward is
opened-append (closes delimiter to ∷ front) back [] afterward is = cc
opened-append (closes delimiter to ∷ front) back (innermost ∷ around) afterward is =
    closed-append front back around afterward (is_partner innermost.0 delimiter) (opened-append front back around afterward) is

closed-most_open : (front back : List Lexeme) (around afterward : List (Delimiter × ℕ)) (n : ℕ) (partner : Bool) → n ≡ length around →
    (opened around front ≡ Some afterward → most_open (length around) (front ++ back) ≡ max (most_open (length around) front) (most_open (length afterward) back)) →
    cond partner (opened around front) None ≡ Some afterward → most_open n (front ++ back) ≡ max (most_open n front) (most_open (length afterward) back)
closed-most_open front back around afterward n true e goes is = rw e (goes is)
closed-most_open front back around afterward n false e goes is = cc

-- most delimiters are open in the front or in the tokens after it
pub most_open-append : (front back : List Lexeme) (around afterward : List (Delimiter × ℕ)) → opened around front ≡ Some afterward →
    most_open (length around) (front ++ back) ≡ max (most_open (length around) front) (most_open (length afterward) back)
most_open-append [] back around afterward is = let e : around ≡ afterward = cc in rw e (omega (arith, most_open-least (length afterward) back))
most_open-append (leaf token ∷ front) back around afterward is = most_open-append front back around afterward is
most_open-append (opens delimiter from ∷ front) back around afterward is =
    let P : ℕ → Type 0 = λ m. most_open m (front ++ back) ≡ max (most_open m front) (most_open (length afterward) back) in
    let e : suc (length around) ≡ length around + 1 = omega arith in
    subst P e (most_open-append front back ((delimiter, from) ∷ around) afterward is)
most_open-append (closes delimiter to ∷ front) back [] afterward is = cc
most_open-append (closes delimiter to ∷ front) back (innermost ∷ around) afterward is =
    let e : suc (length around) - 1 ≡ length around = omega arith in
    omega (arith, closed-most_open front back around afterward (suc (length around) - 1) (is_partner innermost.0 delimiter) e (most_open-append front back around afterward) is)

-- The tokens of lexemes: a stack of groups that are begun, innermost first, and the tokens read
-- after them.

-- a group that is begun: the tokens before it, its delimiter, and its offset
record OpenGroup : Type 0 where
  before : TokenList
  delimiter : Delimiter
  from : ℕ

abbrev grown : List OpenGroup → TokenList → List Lexeme → Option TokenList
grown [] current [] = Some current
grown (b ∷ begun) current [] = None
grown begun current (leaf token ∷ rest) = grown begun (append current (also token none)) rest
grown begun current (opens delimiter from ∷ rest) = grown ((record { before = current; delimiter = delimiter; from = from }) ∷ begun) none rest
grown [] current (closes delimiter to ∷ rest) = None
grown (b ∷ begun) current (closes delimiter to ∷ rest) = grown begun (append b.before (also (group b.delimiter (record { from = b.from; to = to }) current) none)) rest

pub append-none : (tokens : TokenList) → append tokens none ≡ tokens
append-none none = refl
append-none (also token rest) = ap (also token) (append-none rest)

grown-lexemes : (tokens : TokenList) (begun : List OpenGroup) (current : TokenList) (more : List Lexeme) → grown begun current (lexemes tokens ++ more) ≡ grown begun (append current tokens) more
grown-lexemes none begun current more = ap (λ c. grown begun c more) (sym (append-none current))
grown-lexemes (also (identifier text span) rest) begun current more =
    grown-lexemes rest begun (append current (also (identifier text span) none)) more ∙ ap (λ c. grown begun c more) (append-also current (identifier text span) rest)
grown-lexemes (also (punctuation character spacing span) rest) begun current more =
    grown-lexemes rest begun (append current (also (punctuation character spacing span) none)) more ∙ ap (λ c. grown begun c more) (append-also current (punctuation character spacing span) rest)
grown-lexemes (also (literal text span) rest) begun current more =
    grown-lexemes rest begun (append current (also (literal text span) none)) more ∙ ap (λ c. grown begun c more) (append-also current (literal text span) rest)
grown-lexemes (also (doc text span) rest) begun current more =
    grown-lexemes rest begun (append current (also (doc text span) none)) more ∙ ap (λ c. grown begun c more) (append-also current (doc text span) rest)
grown-lexemes (also (group delimiter span inside) rest) begun current more =
    ap (grown begun current) (run-lexemes delimiter span inside rest more)
    ∙ grown-lexemes inside ((record { before = current; delimiter = delimiter; from = span.from }) ∷ begun) none (closes delimiter span.to ∷ (lexemes rest ++ more))
    ∙ grown-lexemes rest begun (append current (also (group delimiter span inside) none)) more
    ∙ ap (λ c. grown begun c more) (append-also current (group delimiter span inside) rest)

grown-whole : (tokens : TokenList) → grown [] none (lexemes tokens) ≡ Some tokens
grown-whole tokens = ap (grown [] none) (sym (append-nil (lexemes tokens))) ∙ grown-lexemes tokens [] none []

-- tokens with the same lexemes are the same
pub lexemes-one : (tokens other : TokenList) → lexemes tokens ≡ lexemes other → tokens ≡ other
lexemes-one tokens other is =
    let e : Some tokens ≡ Some other = sym (grown-whole tokens) ∙ ap (grown [] none) is ∙ grown-whole other in cc
