-- An enum that is read has the name that is found.
use Rattle.std.proofs.Common.{◌≡◌, ◌==◌, ◌∙◌, ℕ, List, Bool, true, false, Option, Some, None, Result, Ok, refl, ap, codes}
use Rattle.std.specs.Str.{bytes_eq}
use Rattle.logos_lexeme.specs.declared.lexeme.Span.{Span}
use Rattle.logos_lexeme.specs.declared.lexeme.Spacing.{Spacing}
use Rattle.logos_lexeme.specs.declared.lexeme.Delimiter.TheVariants.{Parenthesis, Bracket, Brace}
use Rattle.logos_token.specs.Tokens.{Token, TokenList, identifier, punctuation, literal, doc, group, none, also, rest_of}
use Rattle.logos_enum.specs.declared.error.ReadError.{ReadError}
use Rattle.logos_enum.specs.Attributes.{Attributes, after_attributes, after_hash, after_keyword, after_visibility, announced_in, attribute_mismatch, occur, unless}
use Rattle.logos_enum.specs.Enum.{Reads, enum_of, item, reads}
use Rattle.logos_enum.specs.EnumValues.{EnumValue}
use Rattle.logos_enum.specs.Generics.{name_in}
use Rattle.logos_enum.specs.Marks.{hash, is_outer}
use Rattle.logos_enum.specs.Rules.Then.{goes}
use Rattle.logos_enum.specs.Values.{Slice}
use Rattle.logos_rust_file.specs.Fronts.{name_at, name_of}
use Rattle.logos_rust_file.specs.Fronts as found

same_ok : {one other : TokenList} → ◌≡◌ {A = Result TokenList ReadError} (Ok one) (Ok other) → one ≡ other
same_ok e = cc

-- after attributes that are read the same tokens are left
doc_left : (text : List ℕ) (span : Span) (rest middle : TokenList) → after_attributes (also (doc text span) rest) ≡ Ok middle → (after_attributes rest ≡ Ok middle → found.after_attributes rest ≡ middle) →
    found.after_attributes (also (doc text span) rest) ≡ middle
doc_left text span rest middle e left = go (is_outer text) refl
  where
    go : (outer : Bool) → is_outer text ≡ outer → found.after_attributes (also (doc text span) rest) ≡ middle
    go true f = let g : after_attributes rest ≡ Ok middle = rw f at e in rw f (left g)
    go false f = let g : ◌≡◌ {A = Result TokenList ReadError} (Ok (also (doc text span) rest)) (Ok middle) = rw f at e in rw f (same_ok g)

mark_left : (character : ℕ) (spacing : Spacing) (span : Span) (rest middle : TokenList) → after_attributes (also (punctuation character spacing span) rest) ≡ Ok middle →
    (after_hash rest ≡ Ok middle → found.after_hash (punctuation character spacing span) rest ≡ middle) → found.after_attributes (also (punctuation character spacing span) rest) ≡ middle
mark_left character spacing span rest middle e left = go (character == hash) refl
  where
    go : (marks : Bool) → (character == hash) ≡ marks → found.after_attributes (also (punctuation character spacing span) rest) ≡ middle
    go true f = let g : after_hash rest ≡ Ok middle = rw f at e in rw f (left g)
    go false f = let g : ◌≡◌ {A = Result TokenList ReadError} (Ok (also (punctuation character spacing span) rest)) (Ok middle) = rw f at e in rw f (same_ok g)

brackets_left : (inside rest middle : TokenList) → unless (attribute_mismatch inside) (after_attributes rest) ≡ Ok middle → after_attributes rest ≡ Ok middle
brackets_left inside rest middle e = go (attribute_mismatch inside) refl
  where
    go : (at : Option Span) → attribute_mismatch inside ≡ at → after_attributes rest ≡ Ok middle
    go None f = rw f at e
    go (Some span) f = let g : unless (Some span) (after_attributes rest) ≡ Ok middle = rw f at e in absurd (cc)

mutual
  attributes_left : (run middle : TokenList) → after_attributes run ≡ Ok middle → found.after_attributes run ≡ middle
  attributes_left none middle e = same_ok e
  attributes_left (also (identifier text span) rest) middle e = same_ok e
  attributes_left (also (literal text span) rest) middle e = same_ok e
  attributes_left (also (group delimiter span inside) rest) middle e = same_ok e
  attributes_left (also (doc text span) rest) middle e = doc_left text span rest middle e (λ g. attributes_left rest middle g)
  attributes_left (also (punctuation character spacing span) rest) middle e = mark_left character spacing span rest middle e (λ g. hash_left (punctuation character spacing span) rest middle g)

  hash_left : (sign : Token) (rest middle : TokenList) → after_hash rest ≡ Ok middle → found.after_hash sign rest ≡ middle
  hash_left sign none middle e = absurd (cc)
  hash_left sign (also (identifier text at) rest) middle e = absurd (cc)
  hash_left sign (also (punctuation character other at) rest) middle e = absurd (cc)
  hash_left sign (also (literal text at) rest) middle e = absurd (cc)
  hash_left sign (also (doc text at) rest) middle e = absurd (cc)
  hash_left sign (also (group Parenthesis at inside) rest) middle e = absurd (cc)
  hash_left sign (also (group Brace at inside) rest) middle e = absurd (cc)
  hash_left sign (also (group Bracket at inside) rest) middle e = attributes_left rest middle (brackets_left inside rest middle e)

-- the tokens after `enum`
keyword_left : (run rest : TokenList) → after_keyword run ≡ Some rest → rest_of run ≡ rest
keyword_left none rest e = absurd (cc)
keyword_left (also (identifier text span) more) rest e = go (bytes_eq text (codes "enum")) refl
  where
    go : (is : Bool) → bytes_eq text (codes "enum") ≡ is → more ≡ rest
    go true f = let g : ◌≡◌ {A = Option TokenList} (Some more) (Some rest) = rw f at e in cc
    go false f = let g : ◌≡◌ {A = Option TokenList} None (Some rest) = rw f at e in absurd (cc)
keyword_left (also (punctuation character spacing span) more) rest e = absurd (cc)
keyword_left (also (literal text span) more) rest e = absurd (cc)
keyword_left (also (doc text span) more) rest e = absurd (cc)
keyword_left (also (group delimiter span inside) more) rest e = absurd (cc)

-- the name that is read
name_read : (run rest : TokenList) (name : Slice) → name_in run ≡ Ok (name, rest) → name_at run ≡ Some name.span
name_read none rest name e = absurd (cc)
name_read (also (identifier text span) more) rest name e =
    let same : ◌≡◌ {A = Slice × TokenList} (record { text = text; span = span }, more) (name, rest) = cc in
    ap (λ (read : Slice × TokenList). Some read.0.span) same
name_read (also (punctuation character spacing span) more) rest name e = absurd (cc)
name_read (also (literal text span) more) rest name e = absurd (cc)
name_read (also (doc text span) more) rest name e = absurd (cc)
name_read (also (group delimiter span inside) more) rest name e = absurd (cc)

-- the name of the enum that is read after `enum`
named : (attributes rest : TokenList) (value : EnumValue) → item attributes rest (Ok (value, none)) → name_at rest ≡ Some value.name.span
named attributes rest value (goes {value = name} {rest = after} e (goes {value = parameters} p (goes w (goes {value = list} b (goes {rest = end} l g))))) =
    let same : ◌≡◌ {A = EnumValue × TokenList} (enum_of attributes name parameters list, end) (value, none) = cc in
    name_read rest after name e ∙ ap (λ (read : EnumValue × TokenList). Some read.0.name.span) same

pub name-read : (tokens : TokenList) (value : EnumValue) → Reads tokens (Ok value) → name_of tokens ≡ Some value.name.span
name-read tokens value (reads {attributes} {rest} front is) = go front.occur front.announced
  where
    go : {middle : TokenList} → Attributes tokens (Ok (attributes, middle)) → announced_in middle ≡ Some rest → name_of tokens ≡ Some value.name.span
    go (occur {rest = middle} e whole) word =
        ap (λ (run : TokenList). name_at (rest_of (after_visibility run))) (attributes_left tokens middle e) ∙ ap name_at (keyword_left (after_visibility middle) rest word) ∙ named attributes rest value is
