-- Runs of tokens, at any depth.
use Rattle.std.proofs.Common.{◌≡◌, ◌∙◌, refl, sym, ap}
use Rattle.logos_lexeme.specs.declared.lexeme.Span.{Span}
use Rattle.logos_lexeme.specs.declared.lexeme.Delimiter.{Delimiter}
use Rattle.logos_token.specs.Tokens.{Token, TokenList, group, none, also, append, IsRestOf}
use Rattle.logos_token.specs.PrintedAgain.{IsRunOf, here, within}
use Rattle.logos_token.proofs.reading.NestingLemmas.{append-none}
use Rattle.logos_laws.proofs.spans.RuleParts.{Rests}

pub append_append : (front middle back : TokenList) → append (append front middle) back ≡ append front (append middle back)
append_append none middle back = refl
append_append (also token front) middle back = ap (also token) (append_append front middle back)

pub part_self : (tokens : TokenList) → IsRunOf tokens tokens
part_self tokens = here none none (sym (append-none tokens))

pub part_none : (tokens : TokenList) → IsRunOf none tokens
part_none tokens = here none tokens refl

pub part_front : (front rest : TokenList) {tokens : TokenList} → IsRunOf (append front rest) tokens → IsRunOf front tokens
part_front front rest (here before back e) = here before (append rest back) (e ∙ ap (append before) (append_append front rest back))
part_front front rest (within before delimiter span inside back e h) = within before delimiter span inside back e (part_front front rest h)

pub part_back : (front rest : TokenList) {tokens : TokenList} → IsRunOf (append front rest) tokens → IsRunOf rest tokens
part_back front rest (here before back e) =
    here (append before front) back (e ∙ (ap (append before) (append_append front rest back) ∙ sym (append_append before front (append rest back))))
part_back front rest (within before delimiter span inside back e h) = within before delimiter span inside back e (part_back front rest h)

pub part_first : (token : Token) (rest : TokenList) {tokens : TokenList} → IsRunOf (also token rest) tokens → IsRunOf (also token none) tokens
part_first token rest h = part_front (also token none) rest h

pub part_rest : (token : Token) (rest : TokenList) {tokens : TokenList} → IsRunOf (also token rest) tokens → IsRunOf rest tokens
part_rest token rest h = part_back (also token none) rest h

pub part_inside : (delimiter : Delimiter) (span : Span) (inside rest : TokenList) {tokens : TokenList} → IsRunOf (also (group delimiter span inside) rest) tokens → IsRunOf inside tokens
part_inside delimiter span inside rest (here before back e) = within before delimiter span inside (append rest back) e (part_self inside)
part_inside delimiter span inside rest (within before other at around back e h) = within before other at around back e (part_inside delimiter span inside rest h)

pub part_left : (run rest : TokenList) {tokens : TokenList} → IsRestOf run rest → IsRunOf run tokens → IsRunOf rest tokens
part_left run rest {tokens} r h = part_back r.front rest (rw r.is at h)

-- a run of the whole, and that each rest of one is one
abbrev pub Part : TokenList → TokenList → Type 0
Part tokens run = IsRunOf run tokens

pub part_rests : (tokens : TokenList) → Rests (Part tokens)
part_rests tokens token rest h = part_rest token rest h
