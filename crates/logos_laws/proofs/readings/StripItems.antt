-- The rest of the fields of an enum.
use Rattle.std.proofs.Common.{◌≡◌, ◌==◌, ◌&&◌, not, ℕ, Bool, true, false, List, [], ◌∷◌, ◌++◌, Option, Some, Ok, Err, refl, sym, ap, ◌∙◌, subst, codes, eqb-true}
use Rattle.std.specs.Str.{bytes_eq}
use Rattle.logos_lexeme.specs.declared.lexeme.Span.{Span}
use Rattle.logos_lexeme.specs.declared.lexeme.Spacing.{Spacing}
use Rattle.logos_lexeme.specs.declared.lexeme.Delimiter.TheVariants.{Parenthesis, Bracket, Brace}
use Rattle.logos_token.specs.Tokens.{Token, TokenList, identifier, punctuation, literal, doc, group, none, also, append}
use Rattle.logos_type_reader.proofs.ReadWritten.{type_written}
use Rattle.logos_enum.specs.Attributes.{Attributes, occur, after_parenthesis, after_visibility}
use Rattle.logos_enum.specs.Enum.{FieldType, fits, colon_in, label, field_of, field, fields}
use Rattle.logos_enum.specs.EnumValues.{Typed, FieldValue}
use Rattle.logos_enum.specs.Generics.{name_in}
use Rattle.logos_enum.specs.Marks.{hash, colon, comma, is_none}
use Rattle.logos_enum.specs.Rules.{Outcome, Rule, mismatch, goes, after_item, preceded_by, Listed, ended, further, unparted, stopped}
use Rattle.logos_enum.specs.Values.{Slice}
use Rattle.logos_enum.proofs.Once.{reading, same-value, same-rest, one-front}
use Rattle.logos_token.proofs.reading.NestingLemmas.{append-none}
use Rattle.logos_strip.specs.declared.spots.Scope.{Scope}
use Rattle.logos_strip.specs.declared.spots.Scope.TheVariants.{Enum, Attribute, Derives, Variants, Fields}
use Rattle.logos_strip.specs.declared.spots.TokenSpot.{TokenSpot}
use Rattle.logos_strip.specs.declared.spots.TokenSpot.TheVariants.{Open, Hash, Gone, Named, Within}
use Rattle.logos_strip.specs.Helpers.{is_comma}
use Rattle.logos_strip.specs.Spots.{after_part}
use Rattle.logos_strip.specs.Stripping.{sorted}
use Rattle.logos_laws.specs.readings.Stays.{stay, unchanged, attributes_stay, are_attributes, is_plain, are_plain}
use Rattle.logos_laws.specs.readings.StrippedParts.{ItemsStay, no_item, last_item, one_more, FieldStays}
use Rattle.logos_laws.proofs.spans.TokenParts.{append_append}
use Rattle.logos_laws.proofs.readings.TypeTokens.{IsPlain, Goes, there, over, Passes, on, written}
use Rattle.logos_laws.proofs.readings.StripAttributes.{HasAttributes, change_of, attributes_passed, both_true, more_pieces}

-- ---- Tokens of a field in which no attribute begins.

abbrev pub spot_by : Bool → TokenSpot
spot_by true = Open
spot_by false = Within

pub comma_by : (c : ℕ) (p : Spacing) (s : Span) (rest : TokenList) → Some (punctuation c p s) ∷ sorted Fields (after_part Within (punctuation c p s)) rest ≡ Some (punctuation c p s) ∷ sorted Fields (spot_by (c == comma)) rest
comma_by c p s rest = go (c == comma) refl
  where
    go : (x : Bool) → (c == comma) ≡ x → Some (punctuation c p s) ∷ sorted Fields (after_part Within (punctuation c p s)) rest ≡ Some (punctuation c p s) ∷ sorted Fields (spot_by (c == comma)) rest
    go true e = rw e refl
    go false e = rw e refl

pub plain_step : (b : Bool) (token : Token) (rest : TokenList) → IsPlain token → (b ≡ true → is_comma token ≡ false) → sorted Fields (spot_by b) (also token rest) ≡ Some token ∷ sorted Fields (spot_by (is_comma token)) rest
plain_step true (identifier text span) rest p e = refl
plain_step true (punctuation c spacing span) rest p e = rw (p, e refl, p) refl
plain_step true (literal text span) rest p e = refl
plain_step true (doc text span) rest p e = absurd p
plain_step true (group delimiter span inside) rest p e = refl
plain_step false (identifier text span) rest p e = refl
plain_step false (punctuation c spacing span) rest p e = comma_by c spacing span rest
plain_step false (literal text span) rest p e = refl
plain_step false (doc text span) rest p e = absurd p
plain_step false (group delimiter span inside) rest p e = refl

pub plain_token : (token : Token) → IsPlain token → is_plain token ≡ true
plain_token (identifier text span) p = refl
plain_token (punctuation c spacing span) p = rw p refl
plain_token (literal text span) p = refl
plain_token (doc text span) p = absurd p
plain_token (group delimiter span inside) p = refl

pub plain_from : (token : Token) → is_plain token ≡ true → IsPlain token
plain_from (identifier text span) p = tt
plain_from (punctuation c spacing span) p = not_true (c == hash) p
  where
    not_true : (x : Bool) → not x ≡ true → x ≡ false
    not_true true e = cc
    not_true false e = refl
plain_from (literal text span) p = tt
plain_from (doc text span) p = cc
plain_from (group delimiter span inside) p = tt

pub apart : (b x : Bool) → (b ≡ true → x ≡ false) → not (b && x) ≡ true
apart true x e = rw (e refl) refl
apart false x e = refl

pub apart_from : (b x : Bool) → not (b && x) ≡ true → b ≡ true → x ≡ false
apart_from true true e f = cc
apart_from true false e f = refl
apart_from false x e f = cc

-- tokens of a field
pub record PlainStays (b : Bool) (run rest : TokenList) : Type 0 where
  front : TokenList
  plain : are_plain b front ≡ true
  is : run ≡ append front rest
  stays : sorted Fields (spot_by b) run ≡ stay front ++ sorted Fields Within rest

pub plain_over : (b : Bool) (token : Token) (run rest : TokenList) → IsPlain token → (b ≡ true → is_comma token ≡ false) → PlainStays (is_comma token) run rest → PlainStays b (also token run) rest
plain_over b token run rest p e k = record {
  front = also token k.front;
  plain = rw (plain_token token p, apart b (is_comma token) e) k.plain;
  is = ap (also token) k.is;
  stays = plain_step b token run p e ∙ ap (λ (l : List (Option Token)). Some token ∷ l) k.stays;
}

pub plain_stays : {b c : Bool} {run rest : TokenList} → c ≡ false → Goes b run c rest → PlainStays b run rest
plain_stays {b} {c} {run} f there = rw f (record { front = none; plain = refl; is = refl; stays = refl })
plain_stays f (over {b = b} {token = token} {rest = rest} p e h) = plain_over b token rest _ p e (plain_stays f h)

-- the same by the test of these tokens
pub plain_sound : (b : Bool) (front rest : TokenList) → are_plain b front ≡ true → sorted Fields (spot_by b) (append front rest) ≡ stay front ++ sorted Fields Within rest
plain_sound true none rest e = cc
plain_sound false none rest e = refl
plain_sound b (also token front) rest e =
    let one = both_true (is_plain token && not (b && is_comma token)) (are_plain (is_comma token) front) e in
    let two = both_true (is_plain token) (not (b && is_comma token)) one.0 in
    plain_step b token (append front rest) (plain_from token two.0) (apart_from b (is_comma token) two.1) ∙ ap (λ (l : List (Option Token)). Some token ∷ l) (plain_sound (is_comma token) front rest one.1)

pub parenthesis_then : (run : TokenList) {rest : TokenList} → Passes (after_parenthesis run) rest → Passes run rest
parenthesis_then none k = k
parenthesis_then (also (identifier text span) run) k = k
parenthesis_then (also (punctuation c spacing span) run) k = k
parenthesis_then (also (literal text span) run) k = k
parenthesis_then (also (doc text span) run) k = k
parenthesis_then (also (group Parenthesis span inside) run) k = on tt refl k
parenthesis_then (also (group Bracket span inside) run) k = k
parenthesis_then (also (group Brace span inside) run) k = k

pub visibility_then : (run : TokenList) {rest : TokenList} → Passes (after_visibility run) rest → Passes run rest
visibility_then none k = k
visibility_then (also (identifier text span) run) {rest} k = go (bytes_eq text (codes "pub")) refl
  where
    go : (x : Bool) → bytes_eq text (codes "pub") ≡ x → Passes (also (identifier text span) run) rest
    go true e = let h : Passes (after_parenthesis run) rest = rw e at k in on tt refl (parenthesis_then run h)
    go false e = let h : Passes (also (identifier text span) run) rest = rw e at k in h
visibility_then (also (punctuation c spacing span) run) k = k
visibility_then (also (literal text span) run) k = k
visibility_then (also (doc text span) run) k = k
visibility_then (also (group delimiter span inside) run) k = k

pub name_then : (run more : TokenList) (name : Slice) {rest : TokenList} → name_in run ≡ Ok (name, more) → Passes more rest → Passes run rest
name_then none more name e k = cc
name_then (also (identifier text span) run) more name {rest} e k =
    let same : run ≡ more = same-rest (record { text = text; span = span }) name run more e in on tt refl (subst (λ (r : TokenList). Passes r rest) (sym same) k)
name_then (also (punctuation c spacing span) run) more name e k = cc
name_then (also (literal text span) run) more name e k = cc
name_then (also (doc text span) run) more name e k = cc
name_then (also (group delimiter span inside) run) more name e k = cc

pub colon_then : (run more : TokenList) (u : Unit {0}) {rest : TokenList} → colon_in run ≡ Ok (u, more) → Passes more rest → Passes run rest
colon_then none more u e k = cc
colon_then (also (identifier text span) run) more u e k = cc
colon_then (also (punctuation c spacing span) run) more u {rest} e k = go (c == colon) refl
  where
    go : (x : Bool) → (c == colon) ≡ x → Passes (also (punctuation c spacing span) run) rest
    go true f =
        let g : reading tt run ≡ reading u more = rw f at e in
        let same : run ≡ more = same-rest tt u run more g in
        let is : c ≡ colon = eqb-true c colon f in
        subst (λ (d : ℕ). Passes (also (punctuation d spacing span) run) rest) (sym is) (on refl refl (subst (λ (r : TokenList). Passes r rest) (sym same) k))
    go false f = let g : mismatch {A = Unit {0}} (also (punctuation c spacing span) run) ≡ Ok (u, more) = rw f at e in cc
colon_then (also (literal text span) run) more u e k = cc
colon_then (also (doc text span) run) more u e k = cc
colon_then (also (group delimiter span inside) run) more u e k = cc

pub label_then : (named : Bool) (run more : TokenList) (u : Unit {0}) {rest : TokenList} → label named run (Ok (u, more)) → Passes more rest → Passes run rest
label_then true run more u (goes {value = name} {rest = next} h g) k = name_then run next name h (colon_then next more u g k)
label_then false run more u {rest} e k = let same : run ≡ more = same-rest tt u run more e in subst (λ (r : TokenList). Passes r rest) (sym same) k

pub type_then : (run more : TokenList) (typed : Typed) → FieldType run (Ok (typed, more)) → Passes run more
type_then run more typed (fits h e) = let w = type_written h in written w.1

-- ---- Items between commas.

-- the spots after which a comma begins the next item
abbrev pub IsLate : TokenSpot → Type 0
IsLate Open = ⊥
IsLate Hash = ⊥
IsLate Gone = ⊥
IsLate Named = Unit {0}
IsLate Within = Unit {0}

abbrev pub HasItems : Scope → Type 0
HasItems Enum = ⊥
HasItems Attribute = ⊥
HasItems Derives = ⊥
HasItems Variants = Unit {0}
HasItems Fields = Unit {0}

pub record OneItem {A : Type 0} (scope : Scope) (Item : A → TokenList → List (Option Token) → Type 0) (value : A) (run rest : TokenList) : Type 0 where
  pub tokens : TokenList
  pub pieces : List (Option Token)
  pub later : TokenSpot
  pub late : IsLate later
  pub item : Item value tokens pieces
  pub is : run ≡ append tokens rest
  pub stays : sorted scope Open run ≡ pieces ++ sorted scope later rest

pub comma_step : (scope : Scope) (later : TokenSpot) (c : ℕ) (p : Spacing) (s : Span) (rest : TokenList) → HasItems scope → IsLate later → (c == comma) ≡ true →
    sorted scope later (also (punctuation c p s) rest) ≡ Some (punctuation c p s) ∷ sorted scope Open rest
comma_step Enum later c p s rest h l e = absurd h
comma_step Attribute later c p s rest h l e = absurd h
comma_step Derives later c p s rest h l e = absurd h
comma_step Variants Open c p s rest h l e = absurd l
comma_step Variants Hash c p s rest h l e = absurd l
comma_step Variants Gone c p s rest h l e = absurd l
comma_step Variants Named c p s rest h l e = rw e refl
comma_step Variants Within c p s rest h l e = rw e refl
comma_step Fields Open c p s rest h l e = absurd l
comma_step Fields Hash c p s rest h l e = absurd l
comma_step Fields Gone c p s rest h l e = absurd l
comma_step Fields Named c p s rest h l e = rw e refl
comma_step Fields Within c p s rest h l e = rw e refl

pub no_more : (pieces : List (Option Token)) → pieces ++ [] ≡ pieces
no_more [] = refl
no_more (piece ∷ pieces) = ap (λ (l : List (Option Token)). piece ∷ l) (no_more pieces)

abbrev pub ListStays : {A : Type 0} → Scope → (A → TokenList → List (Option Token) → Type 0) → TokenList → Outcome (List A) → Type 0
ListStays scope Item run (Ok read) = (pieces : List (Option Token)) × ItemsStay Item read.0 run pieces × (sorted scope Open run ≡ pieces)
ListStays scope Item run (Err error) = Unit {0}

module _ {A : Type 0} (scope : Scope) (has : HasItems scope) (Item : A → TokenList → List (Option Token) → Type 0) (R : Rule A)
    (each : (run rest : TokenList) (value : A) → R run (Ok (value, rest)) → OneItem scope Item value run rest) where
  none_left : (outcome : Outcome (List A)) → Listed is_none R none outcome → outcome ≡ Ok ([], none)
  none_left outcome (ended e) = refl
  none_left outcome (further e i a l) = cc
  none_left outcome (unparted e i a) = cc
  none_left outcome (stopped e i) = cc

  ended_stays : (run : TokenList) → is_none run ≡ true → ListStays scope Item run (Ok ([], run))
  ended_stays none e = ([], no_item, refl)
  ended_stays (also token rest) e = cc

  last_stays : (value : A) (run : TokenList) → OneItem scope Item value run none → (pieces : List (Option Token)) × ItemsStay Item (value ∷ []) run pieces × (sorted scope Open run ≡ pieces)
  last_stays value run o =
      let same : o.tokens ≡ run = sym (o.is ∙ append-none o.tokens) in
      (o.pieces, subst (λ (r : TokenList). ItemsStay Item (value ∷ []) r o.pieces) same (last_item o.item), o.stays ∙ no_more o.pieces)

  comma_stays : (value : A) (list : List A) (run next : TokenList) (c : ℕ) (p : Spacing) (s : Span) → (c == comma) ≡ true → OneItem scope Item value run (also (punctuation c p s) next) →
      ((pieces : List (Option Token)) × ItemsStay Item list next pieces × (sorted scope Open next ≡ pieces)) →
      (pieces : List (Option Token)) × ItemsStay Item (value ∷ list) run pieces × (sorted scope Open run ≡ pieces)
  comma_stays value list run next c p s e o (pieces, items, is) =
      let comma_token = punctuation c p s in
      let whole = o.pieces ++ (Some comma_token ∷ pieces) in (
        whole,
        subst (λ (r : TokenList). ItemsStay Item (value ∷ list) r whole) (sym o.is) (one_more comma_token o.item (rw e refl) items),
        o.stays ∙ ap (λ (l : List (Option Token)). o.pieces ++ l) (comma_step scope o.later c p s next has o.late e ∙ ap (λ (l : List (Option Token)). Some comma_token ∷ l) is),
      )

  more_stays : (value : A) (run rest next : TokenList) (outcome : Outcome (List A)) → OneItem scope Item value run rest → after_item is_none rest ≡ Ok (tt, next) → Listed is_none R next outcome →
      ListStays scope Item next outcome → ListStays scope Item run (preceded_by value outcome)
  more_stays value run rest next (Err error) o a l k = tt
  more_stays value run none next (Ok read) o a l k =
      let same : none ≡ next = same-rest tt tt none next a in
      let done : ◌≡◌ {A = Outcome (List A)} (Ok read) (Ok ([], none)) = none_left (Ok read) (subst (λ (r : TokenList). Listed is_none R r (Ok read)) (sym same) l) in
      let empty : read.0 ≡ [] = same-value read.0 [] read.1 none done in
      subst (λ (list : List A). (pieces : List (Option Token)) × ItemsStay Item (value ∷ list) run pieces × (sorted scope Open run ≡ pieces)) (sym empty) (last_stays value run o)
  more_stays value run (also (identifier text span) rest) next (Ok read) o a l k = cc
  more_stays value run (also (literal text span) rest) next (Ok read) o a l k = cc
  more_stays value run (also (doc text span) rest) next (Ok read) o a l k = cc
  more_stays value run (also (group delimiter span inside) rest) next (Ok read) o a l k = cc
  more_stays value run (also (punctuation c p s) rest) next (Ok read) o a l k = go (c == comma) refl
    where
      go : (x : Bool) → (c == comma) ≡ x → ListStays scope Item run (preceded_by value (Ok read))
      go true e =
          let g : reading tt rest ≡ reading tt next = rw e at a in
          let same : rest ≡ next = same-rest tt tt rest next g in
          comma_stays value read.0 run rest c p s e o (subst (λ (r : TokenList). (pieces : List (Option Token)) × ItemsStay Item read.0 r pieces × (sorted scope Open r ≡ pieces)) (sym same) k)
      go false e = let g : mismatch {A = Unit {0}} (also (punctuation c p s) rest) ≡ Ok (tt, next) = rw e at a in cc

  pub listed_stays : (run : TokenList) (outcome : Outcome (List A)) → Listed is_none R run outcome → ListStays scope Item run outcome
  listed_stays run outcome (ended e) = ended_stays run e
  listed_stays run outcome (further {rest = rest} {next = next} {value = value} {outcome = others} e i a l) =
      more_stays value run rest next others (each run rest value i) a l (listed_stays next others l)
  listed_stays run outcome (unparted e i a) = tt
  listed_stays run outcome (stopped e i) = tt

-- ---- Fields.

pub record Attributed (scope : Scope) (run attributes rest : TokenList) : Type 0 where
  pub proper : are_attributes attributes ≡ true
  pub is : run ≡ append attributes rest
  pub stays : sorted scope Open run ≡ attributes_stay (change_of scope) attributes ++ sorted scope Open rest

pub attributes_at : (scope : Scope) (run attributes rest : TokenList) → HasAttributes scope → Attributes run (Ok (attributes, rest)) → Attributed scope run attributes rest
attributes_at scope run attributes rest h (occur e f) =
    let p = attributes_passed scope run rest h e in
    let same : attributes ≡ p.front = one-front attributes p.front rest (sym f ∙ p.is) in
    record { proper = ap are_attributes same ∙ p.proper; is = f; stays = p.stays ∙ ap (λ (a : TokenList). attributes_stay (change_of scope) a ++ sorted scope Open rest) (sym same) }

pub field_item : (run attributes middle rest : TokenList) (typed : Typed) → Attributed Fields run attributes middle → Passes middle rest → OneItem Fields FieldStays (field_of attributes typed) run rest
field_item run attributes middle rest typed a p =
    let k = plain_stays refl (p true) in
    let pieces = attributes_stay unchanged attributes ++ stay k.front in record {
      tokens = append attributes k.front;
      pieces = pieces;
      later = Within;
      late = tt;
      item = record { attributes = a.proper; rest = k.front; plain = k.plain; is = refl; stays = refl };
      is = a.is ∙ (ap (append attributes) k.is ∙ sym (append_append attributes k.front rest));
      stays = a.stays ∙ (ap (λ (l : List (Option Token)). attributes_stay unchanged attributes ++ l) k.stays ∙ sym (more_pieces (attributes_stay unchanged attributes) (stay k.front) (sorted Fields Within rest)));
    }

pub field_stays : (named : Bool) (run rest : TokenList) (value : FieldValue) → field named run (Ok (value, rest)) → OneItem Fields FieldStays value run rest
field_stays named run rest value (goes {value = attributes} {rest = middle} at (goes {value = u} {rest = shown} vis (goes {value = v} {rest = labelled} lab (goes {value = typed} {rest = end} ty g)))) =
    let seen : after_visibility middle ≡ shown = same-rest tt u (after_visibility middle) shown vis in
    let p : Passes middle end = visibility_then middle (subst (λ (r : TokenList). Passes r end) (sym seen) (label_then named shown labelled v lab (type_then labelled end typed ty))) in
    let o = field_item run attributes middle end typed (attributes_at Fields run attributes middle tt at) p in
    subst (λ (x : FieldValue). OneItem Fields FieldStays x run rest) (same-value (field_of attributes typed) value end rest g)
    (subst (λ (r : TokenList). OneItem Fields FieldStays (field_of attributes typed) run r) (same-rest (field_of attributes typed) value end rest g) o)

pub fields_stay : (named : Bool) (run : TokenList) (outcome : Outcome (List FieldValue)) → fields named run outcome → ListStays Fields FieldStays run outcome
fields_stay named run outcome h = listed_stays Fields tt FieldStays (field named) (field_stays named) run outcome h
