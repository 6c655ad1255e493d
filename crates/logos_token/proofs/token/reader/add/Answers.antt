use Rattle.std.proofs.Common.{◌≡◌, ℕ, List, [], ◌∷◌, ◌++◌, map, refl, ◌∙◌, ap, slice_index, slice_range, arith}
use Rattle.std.proofs.lemmas.List.{map_push}
use Rattle.std.proofs.lemmas.Result.{on_ok_weaker}
use Rattle.logos_lexeme.specs.declared.lexeme.Span.{Span}
use Rattle.logos_token.specs.declared.token.reader.OpenGroup.{OpenGroup}
use Rattle.logos_token.specs.declared.token.entry.Entry.{Entry}
use Rattle.logos_token.specs.declared.token.entry.Entry.TheVariants.{Ident, Punct, Literal, Doc}
use Rattle.logos_lexeme.specs.declared.lexeme.LexemeKind.{LexemeKind}
use Rattle.logos_token.specs.Tokens.{Token, identifier, punctuation, literal, doc}
use Rattle.logos_token.specs.Flat.{value_of, flat_token}
use Rattle.logos_lexeme.specs.Lexemes.{IsNext}
use Rattle.logos_token.specs.Spelling.{leaf, lexeme_of, token_lexemes}
use Rattle.logos_token.specs.inside.Reading.{IsRead}
use Rattle.logos_token.proofs.reading.ReadingLemmas.{read-gap, read-leaf}
use Rattle.logos_lexeme.proofs.LexemeLaws.{next_advances}
use Rattle.logos_token.proofs.token.reader.add.Goals as goal

-- a piece is not empty, and is in the source

pub range-text-requires-clause-start_le_end : goal.range-text-requires-clause-start_le_end
range-text-requires-clause-start_le_end c = omega (arith, (next_advances c.requires.next).0)

pub range-text-requires-in-Literal-clause-start_le_end : goal.range-text-requires-in-Literal-clause-start_le_end
range-text-requires-in-Literal-clause-start_le_end c = omega (arith, (next_advances c.requires.next).0)

pub range-text-requires-in-Doc-clause-start_le_end : goal.range-text-requires-in-Doc-clause-start_le_end
range-text-requires-in-Doc-clause-start_le_end c = omega (arith, (next_advances c.requires.next).0)

pub bounds-as_bytes-span : goal.bounds-as_bytes-span
bounds-as_bytes-span c = let advances = next_advances c.requires.next in omega (arith, advances.0, advances.1, c.as_bytes.ensures.len)

pub returns-in-Gap-clause-ok : goal.returns-in-Gap-clause-ok
returns-in-Gap-clause-ok c = read-gap c.args.source.now c.args.span _ _ c.requires.read (rw c.in-Gap.is at c.requires.next)

-- the entries with one more
module _ (bytes : List ℕ) (kind : LexemeKind) (span : Span) (items : List Entry) (begun : List OpenGroup) (read : IsRead bytes span.from (map value_of items) begun) (next : IsNext bytes span.from kind span.to) where
  pushed : (entry : Entry) (token : Token) → lexeme_of bytes kind span ≡ leaf token ∷ [] → token_lexemes token ≡ leaf token ∷ [] → flat_token token ≡ value_of entry ∷ [] →
      (new : List Entry) → new ≡ items ++ entry ∷ [] → IsRead bytes span.to (map value_of new) begun
  pushed entry token is lexeme flat new new-is =
      rw (new-is, map_push) (read-leaf bytes kind span (map value_of items) begun token (value_of entry) read next is lexeme flat)

pub returns-in-Identifier-clause-ok : goal.returns-in-Identifier-clause-ok
returns-in-Identifier-clause-ok c =
    let text : c.range-text.result.now ≡ slice_range c.args.source.now c.args.span.from c.args.span.to = c.range-text.ensures.value in
    on_ok_weaker c.push.result
    (pushed c.args.source.now c.args.kind c.args.span c.args.entries.now.items c.args.open_groups.now.items c.requires.read c.requires.next
    (Ident (record { text = c.range-text.result; span = c.args.span })) (identifier (slice_range c.args.source.now c.args.span.from c.args.span.to) c.args.span) (rw c.in-Identifier.is refl) refl (rw text refl) _)
    c.push.ensures.ok

pub returns-in-Literal-clause-ok : goal.returns-in-Literal-clause-ok
returns-in-Literal-clause-ok c =
    let text : c.range-text-in-Literal.result.now ≡ slice_range c.args.source.now c.args.span.from c.args.span.to = c.range-text-in-Literal.ensures.value in
    on_ok_weaker c.push-in-Literal.result
    (pushed c.args.source.now c.args.kind c.args.span c.args.entries.now.items c.args.open_groups.now.items c.requires.read c.requires.next
    (Literal (record { text = c.range-text-in-Literal.result; span = c.args.span })) (literal (slice_range c.args.source.now c.args.span.from c.args.span.to) c.args.span) (rw c.in-Literal.is refl) refl (rw text refl) _)
    c.push-in-Literal.ensures.ok

pub returns-in-Doc-clause-ok : goal.returns-in-Doc-clause-ok
returns-in-Doc-clause-ok c =
    let text : c.range-text-in-Doc.result.now ≡ slice_range c.args.source.now c.args.span.from c.args.span.to = c.range-text-in-Doc.ensures.value in
    on_ok_weaker c.push-in-Doc.result
    (pushed c.args.source.now c.args.kind c.args.span c.args.entries.now.items c.args.open_groups.now.items c.requires.read c.requires.next
    (Doc (record { text = c.range-text-in-Doc.result; span = c.args.span })) (doc (slice_range c.args.source.now c.args.span.from c.args.span.to) c.args.span) (rw c.in-Doc.is refl) refl (rw text refl) _)
    c.push-in-Doc.ensures.ok

pub returns-in-Punctuation-clause-ok : goal.returns-in-Punctuation-clause-ok
returns-in-Punctuation-clause-ok c =
    let character : c.from-character.result ≡ slice_index c.args.source.now c.args.span.from = c.from-character.ensures ∙ ap (λ bs. slice_index bs c.args.span.from) c.as_bytes.ensures.value in
    on_ok_weaker c.push-in-Punctuation.result
    (pushed c.args.source.now c.args.kind c.args.span c.args.entries.now.items c.args.open_groups.now.items c.requires.read c.requires.next
    (Punct (record { character = c.from-character.result; spacing = c.in-Punctuation.spacing; span = c.args.span })) (punctuation (slice_index c.args.source.now c.args.span.from) c.in-Punctuation.spacing c.args.span) (rw c.in-Punctuation.is refl) refl (rw character refl) _)
    c.push-in-Punctuation.ensures.ok
