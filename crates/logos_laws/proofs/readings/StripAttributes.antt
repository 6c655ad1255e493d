-- The rest of attributes.
use Rattle.std.proofs.Common.{◌≡◌, ◌==◌, ◌&&◌, ◌||◌, if◌then◌else◌, ℕ, Bool, true, false, List, [], ◌∷◌, ◌++◌, Option, Some, None, Result, Ok, refl, sym, ap, ◌∙◌, subst, codes, eqb-true}
use Rattle.std.specs.Str.{bytes_eq}
use Rattle.std.specs.List.{flat_map}
use Rattle.logos_lexeme.specs.declared.lexeme.Span.{Span}
use Rattle.logos_lexeme.specs.declared.lexeme.Spacing.{Spacing}
use Rattle.logos_lexeme.specs.declared.lexeme.Spacing.TheVariants.{Alone, Joint}
use Rattle.logos_lexeme.specs.declared.lexeme.Delimiter.TheVariants.{Parenthesis, Bracket, Brace}
use Rattle.logos_token.specs.Tokens.{Token, TokenList, identifier, punctuation, literal, doc, group, none, also, append}
use Rattle.logos_token.specs.First.{colon, is_path_mark, after_word, after_colon, after_path_mark}
use Rattle.logos_enum.specs.declared.error.ReadError.{ReadError}
use Rattle.logos_enum.specs.Attributes.{attribute_mismatch, unless, after_attributes, after_hash}
use Rattle.logos_enum.specs.Marks.{hash, is_outer}
use Rattle.logos_strip.specs.declared.spots.Scope.{Scope}
use Rattle.logos_strip.specs.declared.spots.Scope.TheVariants.{Enum, Attribute, Derives, Variants, Fields}
use Rattle.logos_strip.specs.declared.spots.TokenSpot.{TokenSpot}
use Rattle.logos_strip.specs.declared.spots.TokenSpot.TheVariants.{Open, Gone, Named, Within}
use Rattle.logos_strip.specs.Helpers.{is_comma, is_helper_path, holds_after, ends_entry, is_macro_name, is_macro_segment, is_macro_path, is_global_path, is_macro_entry}
use Rattle.logos_strip.specs.Spots.{scope_inside, after_part}
use Rattle.logos_strip.specs.Stripping.{in_front, left, thinned, sorted}
use Rattle.logos_laws.specs.readings.Stays.{stay, go_away, Entry, with_first, entries_of, entry_stays, list_without_macro, derive_without_macro, unchanged, brackets_stay, attributes_stay, are_attributes, are_bracketed}

-- ---- Runs of which all stays.

stays_front : (run : TokenList) (token : Token) → in_front (stay run) token ≡ token
stays_front none token = refl
stays_front (also next rest) token = refl

pub left_stay : (run : TokenList) → left (stay run) ≡ run
left_stay none = refl
left_stay (also token rest) = rw (stays_front rest token, left_stay rest) refl

pub stay_append : (front back : TokenList) → stay (append front back) ≡ stay front ++ stay back
stay_append none back = refl
stay_append (also token front) back = ap (λ (l : List (Option Token)). Some token ∷ l) (stay_append front back)

-- ---- Entries of a `derive`.

-- the tokens of the first entry
abbrev tokens_first : List Entry → TokenList
tokens_first [] = none
tokens_first (entry ∷ entries) = entry.tokens

abbrev first_entry : TokenList → TokenList
first_entry run = tokens_first (entries_of run)

first_with : (token : Token) (entries : List Entry) → tokens_first (with_first token entries) ≡ also token (tokens_first entries)
first_with token [] = refl
first_with token (entry ∷ entries) = refl

-- of a first token that is a comma, and of another one
first_by : (F : TokenList → Bool) (b : Bool) (token : Token) (rest : TokenList) → (is_comma token ≡ true → b ≡ F none) → (is_comma token ≡ false → b ≡ F (also token (first_entry rest))) → b ≡ F (first_entry (also token rest))
first_by F b token rest f g = go (is_comma token) refl
  where
    go : (x : Bool) → is_comma token ≡ x → b ≡ F (first_entry (also token rest))
    go true e = rw e (f e)
    go false e = rw (e, first_with token (entries_of rest)) (g e)

ends_same : (run : TokenList) → ends_entry run ≡ ends_entry (first_entry run)
ends_same none = refl
ends_same (also token rest) = first_by ends_entry (is_comma token) token rest (λ e. e) (λ e. refl)

-- a test of tokens that depends only on the first entry
abbrev Same : (TokenList → Bool) → Type 0
Same test = (run : TokenList) → test run ≡ test (first_entry run)

module _ (test : TokenList → Bool) (same : Same test) where
  if_same : (b : Bool) (run : TokenList) → holds_after test (if b then Some run else None) ≡ holds_after test (if b then Some (first_entry run) else None)
  if_same true run = same run
  if_same false run = refl

  word_same : (word : List ℕ) → Same (λ run. holds_after test (after_word word run))
  word_same word none = refl
  word_same word (also (identifier text span) rest) = first_by (λ run. holds_after test (after_word word run)) _ (identifier text span) rest (λ e. cc) (λ e. if_same (bytes_eq text word) rest)
  word_same word (also (punctuation c spacing span) rest) = first_by (λ run. holds_after test (after_word word run)) false (punctuation c spacing span) rest (λ e. refl) (λ e. refl)
  word_same word (also (literal text span) rest) = first_by (λ run. holds_after test (after_word word run)) false (literal text span) rest (λ e. refl) (λ e. refl)
  word_same word (also (doc text span) rest) = first_by (λ run. holds_after test (after_word word run)) false (doc text span) rest (λ e. refl) (λ e. refl)
  word_same word (also (group delimiter span inside) rest) = first_by (λ run. holds_after test (after_word word run)) false (group delimiter span inside) rest (λ e. refl) (λ e. refl)

  -- a comma is no colon
  comma_apart : (c : ℕ) → (c == 44) ≡ true → (c == colon) ≡ false
  comma_apart c e = rw (eqb-true c 44 e) refl

  colon_same : Same (λ run. holds_after test (after_colon run))
  colon_same none = refl
  colon_same (also (identifier text span) rest) = first_by (λ run. holds_after test (after_colon run)) false (identifier text span) rest (λ e. refl) (λ e. refl)
  colon_same (also (punctuation c spacing span) rest) = first_by (λ run. holds_after test (after_colon run)) _ (punctuation c spacing span) rest (λ e. rw (comma_apart c e) refl) (λ e. if_same (c == colon) rest)
  colon_same (also (literal text span) rest) = first_by (λ run. holds_after test (after_colon run)) false (literal text span) rest (λ e. refl) (λ e. refl)
  colon_same (also (doc text span) rest) = first_by (λ run. holds_after test (after_colon run)) false (doc text span) rest (λ e. refl) (λ e. refl)
  colon_same (also (group delimiter span inside) rest) = first_by (λ run. holds_after test (after_colon run)) false (group delimiter span inside) rest (λ e. refl) (λ e. refl)

  mark_if : (b : Bool) (run : TokenList) → holds_after test (if b then after_colon run else None) ≡ holds_after test (if b then after_colon (first_entry run) else None)
  mark_if true run = colon_same run
  mark_if false run = refl

  comma_mark : (c : ℕ) (spacing : Spacing) → (c == 44) ≡ true → is_path_mark c spacing ≡ false
  comma_mark c Alone e = refl
  comma_mark c Joint e = comma_apart c e

  path_same : Same (λ run. holds_after test (after_path_mark run))
  path_same none = refl
  path_same (also (identifier text span) rest) = first_by (λ run. holds_after test (after_path_mark run)) false (identifier text span) rest (λ e. refl) (λ e. refl)
  path_same (also (punctuation c spacing span) rest) = first_by (λ run. holds_after test (after_path_mark run)) _ (punctuation c spacing span) rest (λ e. rw (comma_mark c spacing e) refl) (λ e. mark_if (is_path_mark c spacing) rest)
  path_same (also (literal text span) rest) = first_by (λ run. holds_after test (after_path_mark run)) false (literal text span) rest (λ e. refl) (λ e. refl)
  path_same (also (doc text span) rest) = first_by (λ run. holds_after test (after_path_mark run)) false (doc text span) rest (λ e. refl) (λ e. refl)
  path_same (also (group delimiter span inside) rest) = first_by (λ run. holds_after test (after_path_mark run)) false (group delimiter span inside) rest (λ e. refl) (λ e. refl)

name_same : Same is_macro_name
name_same = word_same ends_entry ends_same (codes "Logos")

macro_path_same : Same is_macro_path
macro_path_same = word_same is_macro_segment (path_same is_macro_name name_same) (codes "logos")

entry_same : (run : TokenList) → is_macro_entry run ≡ is_macro_entry (first_entry run)
entry_same run =
    let a = name_same run in
    let b = macro_path_same run in
    let c = path_same is_macro_path macro_path_same run in
    ap (λ (x : Bool). x || (is_macro_path run || is_global_path run)) a
    ∙ ap (λ (x : Bool). is_macro_name (first_entry run) || (x || is_global_path run)) b
    ∙ ap (λ (x : Bool). is_macro_name (first_entry run) || (is_macro_path (first_entry run) || x)) c

-- the first entry as a whole, and then the others
abbrev tail : (TokenList → List (Option Token)) → List Entry → List (Option Token)
tail f [] = []
tail f (entry ∷ entries) = f (append entry.tokens entry.comma) ++ flat_map entry_stays entries

tail_stays : (token : Token) (entries : List Entry) → tail stay (with_first token entries) ≡ Some token ∷ tail stay entries
tail_stays token [] = refl
tail_stays token (entry ∷ entries) = refl

tail_goes : (token : Token) (entries : List Entry) → tail go_away (with_first token entries) ≡ None ∷ tail go_away entries
tail_goes token [] = refl
tail_goes token (entry ∷ entries) = refl

first_goes : (entries : List Entry) → is_macro_entry (tokens_first entries) ≡ true → tail go_away entries ≡ flat_map entry_stays entries
first_goes [] e = refl
first_goes (entry ∷ entries) e = rw e refl

first_stays : (entries : List Entry) → is_macro_entry (tokens_first entries) ≡ false → tail stay entries ≡ flat_map entry_stays entries
first_stays [] e = refl
first_stays (entry ∷ entries) e = rw e refl

thin_entry : (spot : TokenSpot) (token : Token) (rest : TokenList) → thinned (scope_inside Derives spot token rest) token ≡ token
thin_entry spot (identifier text span) rest = refl
thin_entry spot (punctuation c spacing span) rest = refl
thin_entry spot (literal text span) rest = refl
thin_entry spot (doc text span) rest = refl
thin_entry spot (group delimiter span inside) rest = refl

record EntriesStay (run : TokenList) : Type 0 where
  later : sorted Derives Within run ≡ tail stay (entries_of run)
  gone : sorted Derives Gone run ≡ tail go_away (entries_of run)
  open_spot : sorted Derives Open run ≡ flat_map entry_stays (entries_of run)

later_step : (token : Token) (rest : TokenList) → EntriesStay rest → sorted Derives Within (also token rest) ≡ tail stay (entries_of (also token rest))
later_step token rest h = rw (thin_entry Within token rest) (go (is_comma token) refl)
  where
    go : (x : Bool) → is_comma token ≡ x → Some token ∷ sorted Derives (after_part Within token) rest ≡ tail stay (entries_of (also token rest))
    go true e = rw e (ap (λ (l : List (Option Token)). Some token ∷ l) h.open_spot)
    go false e = rw (e, tail_stays token (entries_of rest)) (ap (λ (l : List (Option Token)). Some token ∷ l) h.later)

gone_step : (token : Token) (rest : TokenList) → EntriesStay rest → sorted Derives Gone (also token rest) ≡ tail go_away (entries_of (also token rest))
gone_step token rest h = go (is_comma token) refl
  where
    go : (x : Bool) → is_comma token ≡ x → None ∷ sorted Derives (after_part Gone token) rest ≡ tail go_away (entries_of (also token rest))
    go true e = rw e (ap (λ (l : List (Option Token)). None ∷ l) h.open_spot)
    go false e = rw (e, tail_goes token (entries_of rest)) (ap (λ (l : List (Option Token)). None ∷ l) h.gone)

open_step : (token : Token) (rest : TokenList) → EntriesStay rest → sorted Derives Open (also token rest) ≡ flat_map entry_stays (entries_of (also token rest))
open_step token rest h = go (is_macro_entry (also token rest)) refl
  where
    go : (x : Bool) → is_macro_entry (also token rest) ≡ x → sorted Derives Open (also token rest) ≡ flat_map entry_stays (entries_of (also token rest))
    go true e =
        let f : is_macro_entry (first_entry (also token rest)) ≡ true = sym (entry_same (also token rest)) ∙ e in
        rw e (gone_step token rest h ∙ first_goes (entries_of (also token rest)) f)
    go false e =
        let f : is_macro_entry (first_entry (also token rest)) ≡ false = sym (entry_same (also token rest)) ∙ e in
        rw (e, thin_entry Open token rest) (sym (ap (λ (t : Token). Some t ∷ sorted Derives (after_part Within token) rest) (thin_entry Within token rest)) ∙ (later_step token rest h ∙ first_stays (entries_of (also token rest)) f))

entries_stay : (run : TokenList) → EntriesStay run
entries_stay none = record { later = refl; gone = refl; open_spot = refl }
entries_stay (also token rest) = let h = entries_stay rest in record { later = later_step token rest h; gone = gone_step token rest h; open_spot = open_step token rest h }

-- ---- The brackets of an attribute.

rest_stays : (run : TokenList) → sorted Attribute Within run ≡ stay run
rest_stays none = refl
rest_stays (also (identifier text span) rest) = ap (λ (l : List (Option Token)). Some (identifier text span) ∷ l) (rest_stays rest)
rest_stays (also (punctuation c spacing span) rest) = ap (λ (l : List (Option Token)). Some (punctuation c spacing span) ∷ l) (rest_stays rest)
rest_stays (also (literal text span) rest) = ap (λ (l : List (Option Token)). Some (literal text span) ∷ l) (rest_stays rest)
rest_stays (also (doc text span) rest) = ap (λ (l : List (Option Token)). Some (doc text span) ∷ l) (rest_stays rest)
rest_stays (also (group delimiter span inside) rest) = ap (λ (l : List (Option Token)). Some (group delimiter span inside) ∷ l) (rest_stays rest)

-- a token, and then a rest that stays
one_left : (token : Token) (rest : TokenList) → left (Some token ∷ sorted Attribute Within rest) ≡ also token rest
one_left token rest = rw (rest_stays rest, stays_front rest token, left_stay rest) refl

list_left : (run : TokenList) → left (sorted Attribute Named run) ≡ list_without_macro run
list_left none = refl
list_left (also (identifier text span) rest) = one_left (identifier text span) rest
list_left (also (punctuation c spacing span) rest) = one_left (punctuation c spacing span) rest
list_left (also (literal text span) rest) = one_left (literal text span) rest
list_left (also (doc text span) rest) = one_left (doc text span) rest
list_left (also (group Parenthesis span inside) rest) =
    one_left (group Parenthesis span (left (sorted Derives Open inside))) rest ∙ ap (λ (l : List (Option Token)). also (group Parenthesis span (left l)) rest) (entries_stay inside).open_spot
list_left (also (group Bracket span inside) rest) = one_left (group Bracket span inside) rest
list_left (also (group Brace span inside) rest) = one_left (group Brace span inside) rest

name_front : (pieces : List (Option Token)) (text : List ℕ) (span : Span) → in_front pieces (identifier text span) ≡ identifier text span
name_front [] text span = refl
name_front (None ∷ pieces) text span = refl
name_front (Some token ∷ pieces) text span = refl

pub brackets_left : (run : TokenList) → left (sorted Attribute Open run) ≡ derive_without_macro run
brackets_left none = refl
brackets_left (also (punctuation c spacing span) rest) = one_left (punctuation c spacing span) rest
brackets_left (also (literal text span) rest) = one_left (literal text span) rest
brackets_left (also (doc text span) rest) = one_left (doc text span) rest
brackets_left (also (group delimiter span inside) rest) = one_left (group delimiter span inside) rest
brackets_left (also (identifier text span) rest) = go (bytes_eq text (codes "derive")) refl
  where
    go : (x : Bool) → bytes_eq text (codes "derive") ≡ x → left (sorted Attribute Open (also (identifier text span) rest)) ≡ derive_without_macro (also (identifier text span) rest)
    go true e = rw (e, name_front (sorted Attribute Named rest) text span) (ap (also (identifier text span)) (list_left rest))
    go false e = rw e (one_left (identifier text span) rest)

-- ---- The attributes that come first in a run.

-- parts of an enum that may begin with attributes, and the remaining tokens in the brackets of
-- these
abbrev pub HasAttributes : Scope → Type 0
HasAttributes Enum = Unit {0}
HasAttributes Attribute = ⊥
HasAttributes Derives = ⊥
HasAttributes Variants = Unit {0}
HasAttributes Fields = Unit {0}

abbrev pub change_of : Scope → TokenList → TokenList
change_of Enum = derive_without_macro
change_of scope = unchanged

-- attributes were passed
pub record Passed (scope : Scope) (run middle : TokenList) : Type 0 where
  pub front : TokenList
  pub proper : are_attributes front ≡ true
  pub is : run ≡ append front middle
  pub stays : sorted scope Open run ≡ attributes_stay (change_of scope) front ++ sorted scope Open middle

doc_step : (scope : Scope) (text : List ℕ) (span : Span) (rest : TokenList) → HasAttributes scope → sorted scope Open (also (doc text span) rest) ≡ Some (doc text span) ∷ sorted scope Open rest
doc_step Enum text span rest h = refl
doc_step Attribute text span rest h = absurd h
doc_step Derives text span rest h = absurd h
doc_step Variants text span rest h = refl
doc_step Fields text span rest h = refl

module _ (spacing : Spacing) (span at : Span) (inside rest : TokenList) where
  abbrev BracketsStay : Scope → Type 0
  BracketsStay scope =
      sorted scope Open (also (punctuation hash spacing span) (also (group Bracket at inside) rest))
      ≡ brackets_stay (punctuation hash spacing span) (group Bracket at (change_of scope inside)) inside ++ sorted scope Open rest

  helper_goes : (scope : Scope) → HasAttributes scope → is_helper_path inside ≡ true → BracketsStay scope
  helper_goes Enum h e = rw e refl
  helper_goes Attribute h e = absurd h
  helper_goes Derives h e = absurd h
  helper_goes Variants h e = rw e refl
  helper_goes Fields h e = rw e refl

  other_stays : (scope : Scope) → HasAttributes scope → is_helper_path inside ≡ false → BracketsStay scope
  other_stays Enum h e = rw (e, brackets_left inside) refl
  other_stays Attribute h e = absurd h
  other_stays Derives h e = absurd h
  other_stays Variants h e = rw e refl
  other_stays Fields h e = rw e refl

  brackets_step : (scope : Scope) → HasAttributes scope → BracketsStay scope
  brackets_step scope h = go (is_helper_path inside) refl
    where
      go : (x : Bool) → is_helper_path inside ≡ x → BracketsStay scope
      go true e = helper_goes scope h e
      go false e = other_stays scope h e

abbrev leaving : TokenList → Result TokenList ReadError
leaving run = Ok run

none_passed : (scope : Scope) (run middle : TokenList) → leaving run ≡ leaving middle → Passed scope run middle
none_passed scope run middle e = let same : run ≡ middle = cc in record { front = none; proper = refl; is = same; stays = ap (sorted scope Open) same }

doc_passed : (scope : Scope) (text : List ℕ) (span : Span) (rest middle : TokenList) → HasAttributes scope → Passed scope rest middle → Passed scope (also (doc text span) rest) middle
doc_passed scope text span rest middle h p = record {
  front = also (doc text span) p.front;
  proper = p.proper;
  is = ap (also (doc text span)) p.is;
  stays = doc_step scope text span rest h ∙ ap (λ (l : List (Option Token)). Some (doc text span) ∷ l) p.stays;
}

pub more_pieces : (a b c : List (Option Token)) → (a ++ b) ++ c ≡ a ++ (b ++ c)
more_pieces [] b c = refl
more_pieces (x ∷ a) b c = ap (λ (l : List (Option Token)). x ∷ l) (more_pieces a b c)

brackets_passed : (scope : Scope) (spacing : Spacing) (span at : Span) (inside rest middle : TokenList) → HasAttributes scope → Passed scope rest middle →
    Passed scope (also (punctuation hash spacing span) (also (group Bracket at inside) rest)) middle
brackets_passed scope spacing span at inside rest middle h p =
    let here = brackets_stay (punctuation hash spacing span) (group Bracket at (change_of scope inside)) inside in record {
      front = also (punctuation hash spacing span) (also (group Bracket at inside) p.front);
      proper = p.proper;
      is = ap (λ (r : TokenList). also (punctuation hash spacing span) (also (group Bracket at inside) r)) p.is;
      stays = brackets_step spacing span at inside rest scope h ∙ ap (λ (l : List (Option Token)). here ++ l) p.stays ∙ sym (more_pieces here (attributes_stay (change_of scope) p.front) (sorted scope Open middle));
    }

abbrev After : Scope → TokenList → TokenList → Type 0
After scope rest middle = after_attributes rest ≡ Ok middle → Passed scope rest middle

doc_case : (scope : Scope) (text : List ℕ) (span : Span) (rest middle : TokenList) → HasAttributes scope → after_attributes (also (doc text span) rest) ≡ Ok middle → After scope rest middle → Passed scope (also (doc text span) rest) middle
doc_case scope text span rest middle h e k = go (is_outer text) refl
  where
    go : (x : Bool) → is_outer text ≡ x → Passed scope (also (doc text span) rest) middle
    go true f = let g : after_attributes rest ≡ Ok middle = rw f at e in doc_passed scope text span rest middle h (k g)
    go false f = let g : leaving (also (doc text span) rest) ≡ leaving middle = rw f at e in none_passed scope _ middle g

mark_case : (scope : Scope) (c : ℕ) (spacing : Spacing) (span : Span) (rest middle : TokenList) → after_attributes (also (punctuation c spacing span) rest) ≡ Ok middle →
    (after_hash rest ≡ Ok middle → Passed scope (also (punctuation hash spacing span) rest) middle) → Passed scope (also (punctuation c spacing span) rest) middle
mark_case scope c spacing span rest middle e k = go (c == hash) refl
  where
    go : (x : Bool) → (c == hash) ≡ x → Passed scope (also (punctuation c spacing span) rest) middle
    go true f =
        let g : after_hash rest ≡ Ok middle = rw f at e in
        subst (λ (d : ℕ). Passed scope (also (punctuation d spacing span) rest) middle) (sym (eqb-true c hash f)) (k g)
    go false f = let g : leaving (also (punctuation c spacing span) rest) ≡ leaving middle = rw f at e in none_passed scope _ middle g

brackets_case : (scope : Scope) (spacing : Spacing) (span at : Span) (inside rest middle : TokenList) → HasAttributes scope → after_hash (also (group Bracket at inside) rest) ≡ Ok middle → After scope rest middle →
    Passed scope (also (punctuation hash spacing span) (also (group Bracket at inside) rest)) middle
brackets_case scope spacing span at inside rest middle h e k = go (attribute_mismatch inside) refl
  where
    go : (found : Option Span) → attribute_mismatch inside ≡ found → Passed scope (also (punctuation hash spacing span) (also (group Bracket at inside) rest)) middle
    go None f = let g : after_attributes rest ≡ Ok middle = rw f at e in brackets_passed scope spacing span at inside rest middle h (k g)
    go (Some fault) f = let g : unless (Some fault) (after_attributes rest) ≡ Ok middle = rw f at e in cc

mutual
  pub attributes_passed : (scope : Scope) (run middle : TokenList) → HasAttributes scope → after_attributes run ≡ Ok middle → Passed scope run middle
  attributes_passed scope none middle h e = none_passed scope none middle e
  attributes_passed scope (also (identifier text span) rest) middle h e = none_passed scope _ middle e
  attributes_passed scope (also (literal text span) rest) middle h e = none_passed scope _ middle e
  attributes_passed scope (also (group delimiter span inside) rest) middle h e = none_passed scope _ middle e
  attributes_passed scope (also (doc text span) rest) middle h e = doc_case scope text span rest middle h e (λ g. attributes_passed scope rest middle h g)
  attributes_passed scope (also (punctuation c spacing span) rest) middle h e = mark_case scope c spacing span rest middle e (λ g. hash_passed scope spacing span rest middle h g)

  hash_passed : (scope : Scope) (spacing : Spacing) (span : Span) (rest middle : TokenList) → HasAttributes scope → after_hash rest ≡ Ok middle → Passed scope (also (punctuation hash spacing span) rest) middle
  hash_passed scope spacing span none middle h e = cc
  hash_passed scope spacing span (also (identifier text at) rest) middle h e = cc
  hash_passed scope spacing span (also (punctuation c other at) rest) middle h e = cc
  hash_passed scope spacing span (also (literal text at) rest) middle h e = cc
  hash_passed scope spacing span (also (doc text at) rest) middle h e = cc
  hash_passed scope spacing span (also (group Parenthesis at inside) rest) middle h e = cc
  hash_passed scope spacing span (also (group Brace at inside) rest) middle h e = cc
  hash_passed scope spacing span (also (group Bracket at inside) rest) middle h e = brackets_case scope spacing span at inside rest middle h e (λ g. attributes_passed scope rest middle h g)

-- ---- Attributes by their form.

pub both_true : (x y : Bool) → (x && y) ≡ true → (x ≡ true) × (y ≡ true)
both_true true y e = (refl, e)
both_true false y e = cc

module _ (scope : Scope) (has : HasAttributes scope) (middle : TokenList) where
  abbrev Sound : TokenList → Type 0
  Sound front = sorted scope Open (append front middle) ≡ attributes_stay (change_of scope) front ++ sorted scope Open middle

  bracketed_sound : (spacing : Spacing) (span at : Span) (inside front : TokenList) → Sound front → Sound (also (punctuation hash spacing span) (also (group Bracket at inside) front))
  bracketed_sound spacing span at inside front k =
      let here = brackets_stay (punctuation hash spacing span) (group Bracket at (change_of scope inside)) inside in
      brackets_step spacing span at inside (append front middle) scope has ∙ (ap (λ (l : List (Option Token)). here ++ l) k ∙ sym (more_pieces here (attributes_stay (change_of scope) front) (sorted scope Open middle)))

  mutual
    pub attributes_sound : (front : TokenList) → are_attributes front ≡ true → Sound front
    attributes_sound none e = refl
    attributes_sound (also (identifier text span) front) e = cc
    attributes_sound (also (literal text span) front) e = cc
    attributes_sound (also (group delimiter span inside) front) e = cc
    attributes_sound (also (doc text span) front) e = doc_step scope text span (append front middle) has ∙ ap (λ (l : List (Option Token)). Some (doc text span) ∷ l) (attributes_sound front e)
    attributes_sound (also (punctuation c spacing span) front) e =
        let p = both_true (c == hash) (are_bracketed front) e in
        subst (λ (d : ℕ). Sound (also (punctuation d spacing span) front)) (sym (eqb-true c hash p.0)) (mark_sound spacing span front p.1)

    mark_sound : (spacing : Spacing) (span : Span) (front : TokenList) → are_bracketed front ≡ true → Sound (also (punctuation hash spacing span) front)
    mark_sound spacing span none e = cc
    mark_sound spacing span (also (identifier text at) front) e = cc
    mark_sound spacing span (also (punctuation c other at) front) e = cc
    mark_sound spacing span (also (literal text at) front) e = cc
    mark_sound spacing span (also (doc text at) front) e = cc
    mark_sound spacing span (also (group Parenthesis at inside) front) e = cc
    mark_sound spacing span (also (group Brace at inside) front) e = cc
    mark_sound spacing span (also (group Bracket at inside) front) e = bracketed_sound spacing span at inside front (attributes_sound front e)
