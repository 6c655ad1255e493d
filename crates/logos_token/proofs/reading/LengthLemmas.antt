-- The number of entries of a run of tokens.
use Rattle.std.proofs.Common.{◌≡◌, List, length, arith, refl, sym, ◌∙◌, ap, length-append}
use Rattle.std.proofs.lemmas.List.{length-map}
use Rattle.logos_token.specs.declared.token.entry.Entry.{Entry}
use Rattle.logos_token.specs.Tokens.{Token, identifier, punctuation, literal, doc, group, TokenList, none, also, token_count, count_of}
use Rattle.logos_token.specs.Flat.{flat_token, flat, value_of, tokens_in, IsFlat}

mutual
  token-length : (token : Token) → length (flat_token token) ≡ token_count token
  token-length (identifier text span) = refl
  token-length (punctuation character spacing span) = refl
  token-length (literal text span) = refl
  token-length (doc text span) = refl
  token-length (group delimiter span inside) = let h = flat-length inside in omega arith

  flat-length : (tokens : TokenList) → length (flat tokens) ≡ count_of tokens
  flat-length none = refl
  flat-length (also token rest) =
      let h = token-length token in
      let k = flat-length rest in
      omega (arith, length-append (flat_token token) (flat rest))

-- a run has as many entries as tokens
pub entries-count : (entries : List Entry) → IsFlat entries → length entries ≡ count_of (tokens_in entries)
entries-count entries nested = sym (length-map entries value_of) ∙ (ap length (sym nested) ∙ flat-length (tokens_in entries))
