-- An enum derives `Logos` exactly where stripping takes an entry away.
use Rattle.std.proofs.Common.{◌≡◌, ◌==◌, ◌||◌, ℕ, Bool, true, false, List, Option, Some, None, Result, Ok, refl, sym, ◌∙◌, subst, codes, eqb-true}
use Rattle.std.specs.Str.{bytes_eq}
use Rattle.std.proofs.lemmas.Slice.Eq.{bytes_eq-Decides}
use Rattle.logos_lexeme.specs.declared.lexeme.Span.{Span}
use Rattle.logos_lexeme.specs.declared.lexeme.Spacing.{Spacing}
use Rattle.logos_lexeme.specs.declared.lexeme.Delimiter.{Delimiter}
use Rattle.logos_lexeme.specs.declared.lexeme.Delimiter.TheVariants.{Parenthesis, Bracket, Brace}
use Rattle.logos_token.specs.Tokens.{Token, TokenList, identifier, punctuation, literal, doc, group, none, also}
use Rattle.logos_enum.specs.declared.error.ReadError.{ReadError}
use Rattle.logos_enum.specs.Attributes.{attribute_mismatch, unless, after_attributes, after_hash, Attributes, occur, announced_in}
use Rattle.logos_enum.specs.Enum.{Reads, reads}
use Rattle.logos_enum.specs.EnumValues.{EnumValue}
use Rattle.logos_enum.specs.Marks.{hash, is_none, is_outer}
use Rattle.logos_strip.specs.declared.spots.Scope.{Scope}
use Rattle.logos_strip.specs.declared.spots.Scope.TheVariants.{Enum, Attribute, Derives, Variants, Fields}
use Rattle.logos_strip.specs.declared.spots.TokenSpot.{TokenSpot}
use Rattle.logos_strip.specs.declared.spots.TokenSpot.TheVariants.{Open, Hash, Gone, Named, Within}
use Rattle.logos_strip.specs.Entries.{has_entries, loses_inside, loses_entry, loses_derive}
use Rattle.logos_strip.specs.Helpers.{is_comma, is_helper_name, is_helper_path, is_macro_entry}
use Rattle.logos_strip.specs.Spots.{goes, spot_after, scope_of, scope_inside, after_part}
use Rattle.logos_rust_file.specs.Derives.{lists_macro, begins_list, derives_in, derives}

true_or : (b : Bool) → (true || b) ≡ true
true_or b = refl

or_false : (b : Bool) → b ≡ (b || false)
or_false true = refl
or_false false = refl

-- parts without entries, also inside them
abbrev IsQuiet : Scope → Type 0
IsQuiet Enum = ⊥
IsQuiet Attribute = ⊥
IsQuiet Derives = ⊥
IsQuiet Variants = Unit {0}
IsQuiet Fields = Unit {0}

quiet_scope : (scope : Scope) → IsQuiet scope → has_entries scope ≡ false
quiet_scope Enum q = absurd q
quiet_scope Attribute q = absurd q
quiet_scope Derives q = absurd q
quiet_scope Variants q = refl
quiet_scope Fields q = refl

quiet_group : (scope : Scope) (spot : TokenSpot) (delimiter : Delimiter) (last : Bool) (span : Span) (inside : TokenList) → IsQuiet scope →
    ((inner : Scope) → IsQuiet inner → loses_entry inner Open inside ≡ false) → loses_inside (scope_of scope spot delimiter last) (group delimiter span inside) ≡ false
quiet_group Enum spot delimiter last span inside q k = absurd q
quiet_group Attribute spot delimiter last span inside q k = absurd q
quiet_group Derives spot delimiter last span inside q k = absurd q
quiet_group Variants Open delimiter last span inside q k = refl
quiet_group Variants Hash delimiter last span inside q k = refl
quiet_group Variants Gone delimiter last span inside q k = refl
quiet_group Variants Named delimiter last span inside q k = k Fields tt
quiet_group Variants Within delimiter last span inside q k = refl
quiet_group Fields spot delimiter last span inside q k = refl

quiet_step : (scope : Scope) (spot : TokenSpot) (token : Token) (rest : TokenList) → IsQuiet scope → loses_inside (scope_inside scope spot token rest) token ≡ false →
    ((next : TokenSpot) → loses_entry scope next rest ≡ false) → loses_entry scope spot (also token rest) ≡ false
quiet_step scope spot token rest q inside after = go (goes scope spot (also token rest)) refl
  where
    go : (gone : Bool) → goes scope spot (also token rest) ≡ gone → loses_entry scope spot (also token rest) ≡ false
    go true e = rw (e, quiet_scope scope q, after (spot_after scope spot true token)) refl
    go false e = rw (e, inside, after (spot_after scope spot false token)) refl

quiet : (scope : Scope) (spot : TokenSpot) (run : TokenList) → IsQuiet scope → loses_entry scope spot run ≡ false
quiet scope spot none q = refl
quiet scope spot (also (identifier text span) rest) q = quiet_step scope spot (identifier text span) rest q refl (λ next. quiet scope next rest q)
quiet scope spot (also (punctuation character spacing span) rest) q = quiet_step scope spot (punctuation character spacing span) rest q refl (λ next. quiet scope next rest q)
quiet scope spot (also (literal text span) rest) q = quiet_step scope spot (literal text span) rest q refl (λ next. quiet scope next rest q)
quiet scope spot (also (doc text span) rest) q = quiet_step scope spot (doc text span) rest q refl (λ next. quiet scope next rest q)
quiet scope spot (also (group delimiter span inside) rest) q =
    quiet_step scope spot (group delimiter span inside) rest q (quiet_group scope spot delimiter (is_none rest) span inside q (λ inner p. quiet inner Open inside p)) (λ next. quiet scope next rest q)

-- the tokens of an enum from its name on
body_group : (delimiter : Delimiter) (last : Bool) (span : Span) (inside : TokenList) → loses_inside (scope_of Enum Within delimiter last) (group delimiter span inside) ≡ false
body_group Parenthesis last span inside = refl
body_group Bracket last span inside = refl
body_group Brace true span inside = quiet Variants Open inside tt
body_group Brace false span inside = refl

body_quiet : (run : TokenList) → loses_entry Enum Within run ≡ false
body_quiet none = refl
body_quiet (also (identifier text span) rest) = body_quiet rest
body_quiet (also (punctuation character spacing span) rest) = body_quiet rest
body_quiet (also (literal text span) rest) = body_quiet rest
body_quiet (also (doc text span) rest) = body_quiet rest
body_quiet (also (group delimiter span inside) rest) = rw (body_group delimiter (is_none rest) span inside, body_quiet rest) refl

-- the rest of the brackets of an attribute
rest_quiet : (run : TokenList) → loses_entry Attribute Within run ≡ false
rest_quiet none = refl
rest_quiet (also (identifier text span) rest) = rest_quiet rest
rest_quiet (also (punctuation character spacing span) rest) = rest_quiet rest
rest_quiet (also (literal text span) rest) = rest_quiet rest
rest_quiet (also (doc text span) rest) = rest_quiet rest
rest_quiet (also (group delimiter span inside) rest) = rest_quiet rest

-- entries
entry_inside : (spot : TokenSpot) (token : Token) (rest : TokenList) → loses_inside (scope_inside Derives spot token rest) token ≡ false
entry_inside spot (identifier text span) rest = refl
entry_inside spot (punctuation character spacing span) rest = refl
entry_inside spot (literal text span) rest = refl
entry_inside spot (doc text span) rest = refl
entry_inside spot (group delimiter span inside) rest = refl

abbrev ListsSame : TokenList → Type 0
ListsSame run = (lists_macro true run ≡ loses_entry Derives Open run) × (lists_macro false run ≡ loses_entry Derives Within run)

after_stays : (token : Token) (rest : TokenList) → ListsSame rest → lists_macro (is_comma token) rest ≡ loses_entry Derives (after_part Within token) rest
after_stays token rest h = go (is_comma token) refl
  where
    go : (comes : Bool) → is_comma token ≡ comes → lists_macro (is_comma token) rest ≡ loses_entry Derives (after_part Within token) rest
    go true e = rw e h.0
    go false e = rw e h.1

lists_step : (token : Token) (rest : TokenList) → ListsSame rest → ListsSame (also token rest)
lists_step token rest h = (go (is_macro_entry (also token rest)) refl, rw (entry_inside Within token rest) after)
  where
    after : lists_macro (is_comma token) rest ≡ loses_entry Derives (after_part Within token) rest
    after = after_stays token rest h

    go : (gone : Bool) → is_macro_entry (also token rest) ≡ gone → lists_macro true (also token rest) ≡ loses_entry Derives Open (also token rest)
    go true e = rw e refl
    go false e = rw (e, entry_inside Open token rest) after

lists_same : (run : TokenList) → ListsSame run
lists_same none = (refl, refl)
lists_same (also token rest) = lists_step token rest (lists_same rest)

-- a list after `derive`
list_same : (run : TokenList) → begins_list run ≡ loses_entry Attribute Named run
list_same none = refl
list_same (also (identifier text span) rest) = sym (rest_quiet rest)
list_same (also (punctuation character spacing span) rest) = sym (rest_quiet rest)
list_same (also (literal text span) rest) = sym (rest_quiet rest)
list_same (also (doc text span) rest) = sym (rest_quiet rest)
list_same (also (group Parenthesis span inside) rest) = rw (rest_quiet rest) ((lists_same inside).0 ∙ or_false _)
list_same (also (group Bracket span inside) rest) = sym (rest_quiet rest)
list_same (also (group Brace span inside) rest) = sym (rest_quiet rest)

attribute_same : (run : TokenList) → derives_in run ≡ loses_entry Attribute Open run
attribute_same none = refl
attribute_same (also (punctuation character spacing span) rest) = sym (rest_quiet rest)
attribute_same (also (literal text span) rest) = sym (rest_quiet rest)
attribute_same (also (doc text span) rest) = sym (rest_quiet rest)
attribute_same (also (group delimiter span inside) rest) = sym (rest_quiet rest)
attribute_same (also (identifier text span) rest) = go (bytes_eq text (codes "derive")) refl
  where
    go : (is : Bool) → bytes_eq text (codes "derive") ≡ is → derives_in (also (identifier text span) rest) ≡ loses_entry Attribute Open (also (identifier text span) rest)
    go true e = rw e (list_same rest)
    go false e = rw e (sym (rest_quiet rest))

-- a helper attribute is no `derive`
other_name : (text : List ℕ) → bytes_eq text (codes "derive") ≡ true → is_helper_name text ≡ false
other_name text e = let is : text ≡ codes "derive" = (bytes_eq-Decides text (codes "derive")).0 e in rw is refl

helper_quiet : (inside : TokenList) → is_helper_path inside ≡ true → derives_in inside ≡ false
helper_quiet none h = refl
helper_quiet (also (punctuation character spacing span) rest) h = refl
helper_quiet (also (literal text span) rest) h = refl
helper_quiet (also (doc text span) rest) h = refl
helper_quiet (also (group delimiter span inside) rest) h = refl
helper_quiet (also (identifier text span) rest) h = go (bytes_eq text (codes "derive")) refl
  where
    go : (is : Bool) → bytes_eq text (codes "derive") ≡ is → derives_in (also (identifier text span) rest) ≡ false
    go true e = let f : false ≡ true = rw (other_name text e) at h in cc
    go false e = rw e refl

-- the tokens after attributes begin with a word
abbrev BeginsWord : TokenList → Type 0
BeginsWord (also (identifier text span) rest) = Unit {0}
BeginsWord run = ⊥

word_comes : (middle rest : TokenList) → announced_in middle ≡ Some rest → BeginsWord middle
word_comes none rest e = cc
word_comes (also (identifier text span) more) rest e = tt
word_comes (also (punctuation character spacing span) more) rest e = cc
word_comes (also (literal text span) more) rest e = cc
word_comes (also (doc text span) more) rest e = cc
word_comes (also (group delimiter span inside) more) rest e = cc

no_word : (run middle : TokenList) → (BeginsWord run → ⊥) → ◌≡◌ {A = Result TokenList ReadError} (Ok run) (Ok middle) → BeginsWord middle → ⊥
no_word run middle never e w = let same : middle ≡ run = cc in never (subst BeginsWord same w)

abbrev Same : TokenList → Type 0
Same run = derives run ≡ loses_derive run

brackets_same : (spacing : Spacing) (span at : Span) (inside rest : TokenList) → Same rest → Same (also (punctuation hash spacing span) (also (group Bracket at inside) rest))
brackets_same spacing span at inside rest h = go (is_helper_path inside) refl
  where
    go : (helps : Bool) → is_helper_path inside ≡ helps → Same (also (punctuation hash spacing span) (also (group Bracket at inside) rest))
    go true e = rw (e, helper_quiet inside e) h
    go false e = rw (e, attribute_same inside, h) refl

doc_same : (text : List ℕ) (span : Span) (rest middle : TokenList) → after_attributes (also (doc text span) rest) ≡ Ok middle → BeginsWord middle →
    (after_attributes rest ≡ Ok middle → Same rest) → Same (also (doc text span) rest)
doc_same text span rest middle e w same = go (is_outer text) refl
  where
    go : (outer : Bool) → is_outer text ≡ outer → Same (also (doc text span) rest)
    go true f = let g : after_attributes rest ≡ Ok middle = rw f at e in same g
    go false f = let g : ◌≡◌ {A = Result TokenList ReadError} (Ok (also (doc text span) rest)) (Ok middle) = rw f at e in absurd (no_word _ middle (λ x. x) g w)

mark_same : (character : ℕ) (spacing : Spacing) (span : Span) (rest middle : TokenList) → after_attributes (also (punctuation character spacing span) rest) ≡ Ok middle → BeginsWord middle →
    (after_hash rest ≡ Ok middle → Same (also (punctuation hash spacing span) rest)) → Same (also (punctuation character spacing span) rest)
mark_same character spacing span rest middle e w same = go (character == hash) refl
  where
    go : (marks : Bool) → (character == hash) ≡ marks → Same (also (punctuation character spacing span) rest)
    go true f =
        let is : character ≡ hash = eqb-true character hash f in
        let g : after_hash rest ≡ Ok middle = rw f at e in
        subst (λ (c : ℕ). Same (also (punctuation c spacing span) rest)) (sym is) (same g)
    go false f = let g : ◌≡◌ {A = Result TokenList ReadError} (Ok (also (punctuation character spacing span) rest)) (Ok middle) = rw f at e in absurd (no_word _ middle (λ x. x) g w)

brackets_step : (spacing : Spacing) (span at : Span) (inside rest middle : TokenList) → after_hash (also (group Bracket at inside) rest) ≡ Ok middle →
    (after_attributes rest ≡ Ok middle → Same rest) → Same (also (punctuation hash spacing span) (also (group Bracket at inside) rest))
brackets_step spacing span at inside rest middle e same = go (attribute_mismatch inside) refl
  where
    go : (found : Option Span) → attribute_mismatch inside ≡ found → Same (also (punctuation hash spacing span) (also (group Bracket at inside) rest))
    go None f = let g : after_attributes rest ≡ Ok middle = rw f at e in brackets_same spacing span at inside rest (same g)
    go (Some at_fault) f = let g : unless (Some at_fault) (after_attributes rest) ≡ Ok middle = rw f at e in cc

mutual
  attributes_same : (run middle : TokenList) → after_attributes run ≡ Ok middle → BeginsWord middle → Same run
  attributes_same none middle e w = absurd (no_word none middle (λ x. x) e w)
  attributes_same (also (identifier text span) rest) middle e w = sym (body_quiet rest)
  attributes_same (also (literal text span) rest) middle e w = absurd (no_word _ middle (λ x. x) e w)
  attributes_same (also (group delimiter span inside) rest) middle e w = absurd (no_word _ middle (λ x. x) e w)
  attributes_same (also (doc text span) rest) middle e w = doc_same text span rest middle e w (λ g. attributes_same rest middle g w)
  attributes_same (also (punctuation character spacing span) rest) middle e w = mark_same character spacing span rest middle e w (λ g. hash_same spacing span rest middle g w)

  hash_same : (spacing : Spacing) (span : Span) (rest middle : TokenList) → after_hash rest ≡ Ok middle → BeginsWord middle → Same (also (punctuation hash spacing span) rest)
  hash_same spacing span none middle e w = cc
  hash_same spacing span (also (identifier text at) rest) middle e w = cc
  hash_same spacing span (also (punctuation character other at) rest) middle e w = cc
  hash_same spacing span (also (literal text at) rest) middle e w = cc
  hash_same spacing span (also (doc text at) rest) middle e w = cc
  hash_same spacing span (also (group Parenthesis at inside) rest) middle e w = cc
  hash_same spacing span (also (group Brace at inside) rest) middle e w = cc
  hash_same spacing span (also (group Bracket at inside) rest) middle e w = brackets_step spacing span at inside rest middle e (λ g. attributes_same rest middle g w)

-- the tokens of an enum
pub derives-lost : (tokens : TokenList) (value : EnumValue) → Reads tokens (Ok value) → derives tokens ≡ loses_derive tokens
derives-lost tokens value (reads {rest = rest} front item) = go front.occur front.announced
  where
    go : {attributes middle : TokenList} → Attributes tokens (Ok (attributes, middle)) → announced_in middle ≡ Some rest → derives tokens ≡ loses_derive tokens
    go (occur {rest = middle} e is) word = attributes_same tokens middle e (word_comes middle rest word)
