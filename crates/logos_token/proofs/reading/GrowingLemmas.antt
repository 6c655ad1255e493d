-- One more tree after those of a buffer.
use Rattle.std.proofs.Common.{◌≡◌, List, [], ◌++◌, map, sym, ◌∙◌, ap, append-nil}
use Rattle.logos_token.specs.declared.token.entry.Entry.{Entry}
use Rattle.logos_token.specs.Tokens.{Token, none, also, append}
use Rattle.logos_token.specs.Flat.{flat, flat_token, value_of, tokens_in, IsFlat}
use Rattle.logos_token.proofs.reading.FlatLemmas.{flat-append}

pub one-more : (old new : List Entry) (tree : Token) → IsFlat old → map value_of new ≡ map value_of old ++ flat_token tree → flat (append (tokens_in old) (also tree none)) ≡ map value_of new
one-more old new tree nested is =
    flat-append (tokens_in old) (also tree none) ∙ ap (λ es. es ++ (flat_token tree ++ [])) nested ∙ ap (λ es. map value_of old ++ es) (append-nil (flat_token tree)) ∙ sym is
