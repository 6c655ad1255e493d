-- The parts of a run.
use Rattle.std.proofs.Common.{◌≡◌, ℕ, ◌+◌, ◌-◌, ◌≤◌, List, ◌∷◌, ◌++◌, length, map, take, drop, arith, sym, ◌∙◌, ap, refl, length-append, length-drop}
use Rattle.std.proofs.Math.Seq.{take-append_seam}
use Rattle.std.proofs.lemmas.List.{length-map, length-take-le, take-map, drop-map}
use Rattle.logos_lexeme.specs.declared.lexeme.Span.{Span}
use Rattle.logos_lexeme.specs.declared.lexeme.Delimiter.{Delimiter}
use Rattle.logos_token.specs.declared.token.entry.Entry.{Entry}
use Rattle.logos_token.specs.declared.token.entry.Entry.TheVariants.{Ident, Punct, Literal, Doc, Group}
use Rattle.logos_token.specs.Tokens.{group, TokenList, also, append, rest_of}
use Rattle.logos_token.specs.Flat.{flat, value_of, tokens_in, size_of, IsFlat}
use Rattle.logos_token.proofs.reading.FlatLemmas.{OpensRun, opens-run, flat-from_flat, tokens-from_flat, flat-append}

module _ (delimiter : Delimiter) (span : Span) (size : ℕ) (after : List Entry) where
  -- a group's entry in front of others
  pub record OpensGroup : Type 0 where
    pub within : size ≤ length after
    pub inside : IsFlat (take size after)
    pub afterward : IsFlat (drop size after)
    pub tokens : tokens_in (Group delimiter span size ∷ after) ≡ also (group delimiter span (tokens_in (take size after))) (tokens_in (drop size after))

  pub opens-group : IsFlat (Group delimiter span size ∷ after) → OpensGroup
  opens-group nested =
      let r : OpensRun delimiter span size (map value_of after) = opens-run delimiter span size (map value_of after) (rw (length-map after value_of) nested) in
      let lengths = length-map after value_of in
      let within : size ≤ length after = rw lengths at r.within in
      let front = take-map value_of size after in
      let back = drop-map value_of size after in
      let front-length = length-take-le size after within in
      let back-length = length-drop size after in
      record {
        within = within;
        inside = rw (← front, front-length) r.inside;
        afterward = rw (← back, back-length) (rw lengths at r.afterward);
        tokens = rw (← front, ← back, front-length, back-length) (rw lengths at r.tokens);
      }

-- an entry in front of others
pub record BeginsRun (entry : Entry) (after : List Entry) : Type 0 where
  pub within : size_of entry ≤ length after
  pub afterward : IsFlat (drop (size_of entry) after)
  pub rest : tokens_in (drop (size_of entry) after) ≡ rest_of (tokens_in (entry ∷ after))

pub begins-run : (entry : Entry) (after : List Entry) → IsFlat (entry ∷ after) → BeginsRun entry after
begins-run (Ident i) after nested = record { within = omega arith; afterward = cc; rest = refl }
begins-run (Punct p) after nested = record { within = omega arith; afterward = cc; rest = refl }
begins-run (Literal l) after nested = record { within = omega arith; afterward = cc; rest = refl }
begins-run (Doc d) after nested = record { within = omega arith; afterward = cc; rest = refl }
begins-run (Group delimiter span size) after nested =
    let opened = opens-group delimiter span size after nested in
    record { within = opened.within; afterward = opened.afterward; rest = sym (ap rest_of opened.tokens) }

-- entries whose values are the flat form of tokens
pub IsFlat-from_flat : (tokens : TokenList) (entries : List Entry) → flat tokens ≡ map value_of entries → IsFlat entries
IsFlat-from_flat tokens entries is = rw (length-map entries value_of) at (flat-from_flat tokens (map value_of entries) is)

pub tokens_in-from_flat : (tokens : TokenList) (entries : List Entry) → flat tokens ≡ map value_of entries → tokens_in entries ≡ tokens
tokens_in-from_flat tokens entries is = rw (length-map entries value_of) at (tokens-from_flat tokens (map value_of entries) is)

module _ (entries rest : List Entry) (nested : IsFlat entries) (rest-nested : IsFlat rest) (front : TokenList) (is : tokens_in entries ≡ append front (tokens_in rest)) where
  values : map value_of entries ≡ flat front ++ map value_of rest
  values = sym nested ∙ ap flat is ∙ flat-append front (tokens_in rest) ∙ ap (λ es. flat front ++ es) rest-nested

  lengths : length entries ≡ length (flat front) + length rest
  lengths = sym (length-map entries value_of) ∙ ap length values ∙ length-append (flat front) (map value_of rest) ∙ ap (λ n. length (flat front) + n) (length-map rest value_of)

  -- the entries of the front of a run
  pub front-entries : flat front ≡ map value_of (take (length entries - length rest) entries)
  front-entries =
      let size : length entries - length rest ≡ length (flat front) = omega (arith, lengths) in
      rw (size, ← take-map value_of (length (flat front)) entries, values, take-append_seam (flat front) (map value_of rest)) refl

  pub front-within : length rest ≤ length entries
  front-within = omega (arith, lengths)
