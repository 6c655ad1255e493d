-- Entries that stay.
use Rattle.std.proofs.Common.{◌≡◌, ◌==◌, ◌||◌, Bool, true, false, ℕ, List, Some, None, codes, refl, sym, ◌∙◌, ap, if◌then◌else◌}
use Rattle.std.specs.Str.{bytes_eq}
use Rattle.logos_lexeme.specs.declared.lexeme.Spacing.{Spacing}
use Rattle.logos_lexeme.specs.declared.lexeme.Spacing.TheVariants.{Alone, Joint}
use Rattle.logos_lexeme.specs.declared.lexeme.Span.{Span}
use Rattle.logos_token.specs.Tokens.{Token, identifier, punctuation, literal, doc, group, TokenList, none, also}
use Rattle.logos_enum.specs.Marks.{comma, colon}
use Rattle.logos_token.specs.First.{is_path_mark, after_word, after_colon, after_path_mark}
use Rattle.logos_strip.specs.Helpers.{is_comma, holds_after, ends_entry, is_macro_name, is_macro_segment, is_macro_path, is_global_path, is_macro_entry}

-- the same entry comes first, up to the spacing of the comma after it
pub data SameEntry : TokenList → TokenList → Type 0 where
  ended : SameEntry none none
  parted : (span : Span) (spacing other : Spacing) (rest next : TokenList) → SameEntry (also (punctuation comma spacing span) rest) (also (punctuation comma other span) next)
  further : (token : Token) {rest next : TokenList} → is_comma token ≡ false → SameEntry rest next → SameEntry (also token rest) (also token next)

-- the tokens after a name or a mark are the same
module _ (test : TokenList → Bool) (same : (one other : TokenList) → SameEntry one other → test one ≡ test other) where
  if_same : (found : Bool) (one other : TokenList) → SameEntry one other → holds_after test (if found then Some one else None) ≡ holds_after test (if found then Some other else None)
  if_same true one other s = same one other s
  if_same false one other s = refl

  word_same : (word : List ℕ) (one other : TokenList) → SameEntry one other → holds_after test (after_word word one) ≡ holds_after test (after_word word other)
  word_same word _ _ ended = refl
  word_same word _ _ (parted span spacing other rest next) = refl
  word_same word _ _ (further (identifier text span) e s) = if_same (bytes_eq text word) _ _ s
  word_same word _ _ (further (punctuation character spacing span) e s) = refl
  word_same word _ _ (further (literal text span) e s) = refl
  word_same word _ _ (further (doc text span) e s) = refl
  word_same word _ _ (further (group delimiter span inside) e s) = refl

  colon_same : (one other : TokenList) → SameEntry one other → holds_after test (after_colon one) ≡ holds_after test (after_colon other)
  colon_same _ _ ended = refl
  colon_same _ _ (parted span spacing other rest next) = refl
  colon_same _ _ (further (identifier text span) e s) = refl
  colon_same _ _ (further (punctuation character spacing span) e s) = if_same (character == colon) _ _ s
  colon_same _ _ (further (literal text span) e s) = refl
  colon_same _ _ (further (doc text span) e s) = refl
  colon_same _ _ (further (group delimiter span inside) e s) = refl

  mark_same : (found : Bool) (one other : TokenList) → SameEntry one other → holds_after test (if found then after_colon one else None) ≡ holds_after test (if found then after_colon other else None)
  mark_same true one other s = colon_same one other s
  mark_same false one other s = refl

  comma_mark : (spacing : Spacing) → is_path_mark comma spacing ≡ false
  comma_mark Alone = refl
  comma_mark Joint = refl

  comma_none : (span : Span) (spacing : Spacing) (rest : TokenList) → holds_after test (after_path_mark (also (punctuation comma spacing span) rest)) ≡ false
  comma_none span Alone rest = refl
  comma_none span Joint rest = refl

  colons_same : (one other : TokenList) → SameEntry one other → holds_after test (after_path_mark one) ≡ holds_after test (after_path_mark other)
  colons_same _ _ ended = refl
  colons_same _ _ (parted span spacing other rest next) = comma_none span spacing rest ∙ sym (comma_none span other next)
  colons_same _ _ (further (identifier text span) e s) = refl
  colons_same _ _ (further (punctuation character spacing span) e s) = mark_same (is_path_mark character spacing) _ _ s
  colons_same _ _ (further (literal text span) e s) = refl
  colons_same _ _ (further (doc text span) e s) = refl
  colons_same _ _ (further (group delimiter span inside) e s) = refl

ends_same : (one other : TokenList) → SameEntry one other → ends_entry one ≡ ends_entry other
ends_same _ _ ended = refl
ends_same _ _ (parted span spacing other rest next) = refl
ends_same _ _ (further token e s) = refl

name_same : (one other : TokenList) → SameEntry one other → is_macro_name one ≡ is_macro_name other
name_same one other s = word_same ends_entry ends_same (codes "Logos") one other s

segment_same : (one other : TokenList) → SameEntry one other → is_macro_segment one ≡ is_macro_segment other
segment_same one other s = colons_same is_macro_name name_same one other s

path_same : (one other : TokenList) → SameEntry one other → is_macro_path one ≡ is_macro_path other
path_same one other s = word_same is_macro_segment segment_same (codes "logos") one other s

global_same : (one other : TokenList) → SameEntry one other → is_global_path one ≡ is_global_path other
global_same one other s = colons_same is_macro_path path_same one other s

-- an entry names the derive macro in both runs or in neither
pub entry_same : (one other : TokenList) → SameEntry one other → is_macro_entry one ≡ is_macro_entry other
entry_same one other s =
    ap (λ t. t || (is_macro_path one || is_global_path one)) (name_same one other s)
    ∙ ap (λ t. is_macro_name other || (t || is_global_path one)) (path_same one other s)
    ∙ ap (λ t. is_macro_name other || (is_macro_path other || t)) (global_same one other s)
