-- The rest of the variants of an enum.
use Rattle.std.proofs.Common.{◌≡◌, ◌==◌, ℕ, Bool, true, false, List, [], ◌∷◌, ◌++◌, Option, Some, Ok, Err, refl, sym, ap, ◌∙◌, subst, eqb-true}
use Rattle.logos_lexeme.specs.declared.lexeme.Span.{Span}
use Rattle.logos_lexeme.specs.declared.lexeme.Spacing.{Spacing}
use Rattle.logos_lexeme.specs.declared.lexeme.Delimiter.TheVariants.{Parenthesis, Bracket, Brace}
use Rattle.logos_token.specs.Tokens.{Token, TokenList, identifier, punctuation, literal, doc, group, none, also, append}
use Rattle.logos_enum.specs.Enum.{fields, within, Holding, in_tuple, with_names as named_group, nothing, from_comma, value_in, discriminant_in, variant_of, variant, variants}
use Rattle.logos_enum.specs.EnumValues.{FieldValue, FieldsValue, in_parenthesis, in_braces, VariantValue}
use Rattle.logos_enum.specs.Generics.{name_in}
use Rattle.logos_enum.specs.Groups.{Opened, parenthesis_in, brace_in}
use Rattle.logos_enum.specs.Marks.{comma, equals}
use Rattle.logos_enum.specs.Rules.{Outcome, mismatch, goes}
use Rattle.logos_enum.specs.Values.{Slice}
use Rattle.logos_enum.proofs.Once.{reading, same-value, same-rest}
use Rattle.logos_strip.specs.declared.spots.Scope.TheVariants.{Variants, Fields}
use Rattle.logos_strip.specs.declared.spots.TokenSpot.{TokenSpot}
use Rattle.logos_strip.specs.declared.spots.TokenSpot.TheVariants.{Open, Hash, Gone, Named, Within}
use Rattle.logos_strip.specs.Helpers.{is_comma}
use Rattle.logos_strip.specs.Stripping.{left, sorted}
use Rattle.logos_laws.specs.readings.Stays.{stay, unchanged, attributes_stay, has_comma, is_number}
use Rattle.logos_laws.specs.readings.StrippedParts.{FieldStays, FieldsStay, no_group, a_tuple, with_names, VariantStays}
use Rattle.logos_laws.proofs.spans.TokenParts.{append_append}
use Rattle.logos_laws.proofs.readings.TypeTokens.{one}
use Rattle.logos_laws.proofs.readings.StripAttributes.{more_pieces}
use Rattle.logos_laws.proofs.readings.StripItems.{IsLate, ListStays, OneItem, Attributed, attributes_at, fields_stay, listed_stays}

-- ---- Variants.

pub record HeldStays (held : FieldsValue) (run rest : TokenList) : Type 0 where
  pub tokens : TokenList
  pub pieces : List (Option Token)
  pub later : TokenSpot
  pub late : IsLate later
  pub fields : FieldsStay held tokens pieces
  pub is : run ≡ append tokens rest
  pub stays : sorted Variants Named run ≡ pieces ++ sorted Variants later rest

abbrev pub HoldingStays : TokenList → Outcome FieldsValue → Type 0
HoldingStays run (Ok read) = HeldStays read.0 run read.1
HoldingStays run (Err error) = Unit {0}

pub tuple_held : (span : Span) (inside rest : TokenList) (outcome : Outcome (List FieldValue)) → ListStays Fields FieldStays inside outcome →
    HoldingStays (also (group Parenthesis span inside) rest) (within (in_parenthesis span) rest outcome)
tuple_held span inside rest (Ok read) (pieces, items, is) = record {
  tokens = also (group Parenthesis span inside) none;
  pieces = Some (group Parenthesis span (left pieces)) ∷ [];
  later = Within;
  late = tt;
  fields = a_tuple items;
  is = refl;
  stays = ap (λ (l : List (Option Token)). Some (group Parenthesis span (left l)) ∷ sorted Variants Within rest) is;
}
tuple_held span inside rest (Err error) k = tt

pub named_held : (span : Span) (inside rest : TokenList) (outcome : Outcome (List FieldValue)) → ListStays Fields FieldStays inside outcome →
    HoldingStays (also (group Brace span inside) rest) (within (in_braces span) rest outcome)
named_held span inside rest (Ok read) (pieces, items, is) = record {
  tokens = also (group Brace span inside) none;
  pieces = Some (group Brace span (left pieces)) ∷ [];
  later = Within;
  late = tt;
  fields = with_names items;
  is = refl;
  stays = ap (λ (l : List (Option Token)). Some (group Brace span (left l)) ∷ sorted Variants Within rest) is;
}
named_held span inside rest (Err error) k = tt

pub opened_same : (one other : Opened) → ◌≡◌ {A = Option Opened} (Some one) (Some other) → one ≡ other
opened_same one other e = cc

pub tuple_stays : (run : TokenList) (opened : Opened) (inner : Outcome (List FieldValue)) → parenthesis_in run ≡ Some opened → fields false opened.inside inner →
    HoldingStays run (within (in_parenthesis opened.span) opened.rest inner)
tuple_stays none opened inner e h = cc
tuple_stays (also (identifier text span) rest) opened inner e h = cc
tuple_stays (also (punctuation c spacing span) rest) opened inner e h = cc
tuple_stays (also (literal text span) rest) opened inner e h = cc
tuple_stays (also (doc text span) rest) opened inner e h = cc
tuple_stays (also (group Bracket span inside) rest) opened inner e h = cc
tuple_stays (also (group Brace span inside) rest) opened inner e h = cc
tuple_stays (also (group Parenthesis span inside) rest) opened inner e h =
    let here : Opened = record { span = span; inside = inside; rest = rest } in
    let same : here ≡ opened = opened_same here opened e in
    let k : fields false inside inner = subst (λ (o : Opened). fields false o.inside inner) (sym same) h in
    subst (λ (o : Opened). HoldingStays (also (group Parenthesis span inside) rest) (within (in_parenthesis o.span) o.rest inner)) same (tuple_held span inside rest inner (fields_stay false inside inner k))

pub named_stays : (run : TokenList) (opened : Opened) (inner : Outcome (List FieldValue)) → brace_in run ≡ Some opened → fields true opened.inside inner →
    HoldingStays run (within (in_braces opened.span) opened.rest inner)
named_stays none opened inner e h = cc
named_stays (also (identifier text span) rest) opened inner e h = cc
named_stays (also (punctuation c spacing span) rest) opened inner e h = cc
named_stays (also (literal text span) rest) opened inner e h = cc
named_stays (also (doc text span) rest) opened inner e h = cc
named_stays (also (group Parenthesis span inside) rest) opened inner e h = cc
named_stays (also (group Bracket span inside) rest) opened inner e h = cc
named_stays (also (group Brace span inside) rest) opened inner e h =
    let here : Opened = record { span = span; inside = inside; rest = rest } in
    let same : here ≡ opened = opened_same here opened e in
    let k : fields true inside inner = subst (λ (o : Opened). fields true o.inside inner) (sym same) h in
    subst (λ (o : Opened). HoldingStays (also (group Brace span inside) rest) (within (in_braces o.span) o.rest inner)) same (named_held span inside rest inner (fields_stay true inside inner k))

pub holding_stays : (run : TokenList) (outcome : Outcome FieldsValue) → Holding run outcome → HoldingStays run outcome
holding_stays run outcome (in_tuple opened inner e h) = tuple_stays run opened inner e h
holding_stays run outcome (named_group opened inner n e h) = named_stays run opened inner e h
holding_stays run outcome (nothing n e) = record { tokens = none; pieces = []; later = Named; late = tt; fields = no_group; is = refl; stays = refl }

-- the number of a variant
pub record NumberStays (later : TokenSpot) (run rest : TokenList) : Type 0 where
  after : TokenSpot
  late : IsLate after
  front : TokenList
  numbered : is_number front ≡ true
  is : run ≡ append front rest
  stays : sorted Variants later run ≡ stay front ++ sorted Variants after rest

-- tokens without a comma
pub record Uncut (run rest : TokenList) : Type 0 where
  front : TokenList
  whole : has_comma front ≡ false
  is : run ≡ append front rest
  stays : sorted Variants Within run ≡ stay front ++ sorted Variants Within rest

pub one_stays : (token : Token) (rest : TokenList) → is_comma token ≡ false → sorted Variants Within (also token rest) ≡ Some token ∷ sorted Variants Within rest
one_stays (identifier text span) rest e = refl
one_stays (punctuation c spacing span) rest e = rw e refl
one_stays (literal text span) rest e = refl
one_stays (doc text span) rest e = refl
one_stays (group delimiter span inside) rest e = refl

pub one_stayed : (token : Token) (run rest : TokenList) → is_comma token ≡ false → Uncut run rest → Uncut (also token run) rest
one_stayed token run rest e k = record {
  front = also token k.front;
  whole = rw e k.whole;
  is = ap (also token) k.is;
  stays = one_stays token run e ∙ ap (λ (l : List (Option Token)). Some token ∷ l) k.stays;
}

pub until_comma : (run : TokenList) → Uncut run (from_comma run)
until_comma none = record { front = none; whole = refl; is = refl; stays = refl }
until_comma (also (identifier text span) rest) = one_stayed (identifier text span) rest (from_comma rest) refl (until_comma rest)
until_comma (also (literal text span) rest) = one_stayed (literal text span) rest (from_comma rest) refl (until_comma rest)
until_comma (also (doc text span) rest) = one_stayed (doc text span) rest (from_comma rest) refl (until_comma rest)
until_comma (also (group delimiter span inside) rest) = one_stayed (group delimiter span inside) rest (from_comma rest) refl (until_comma rest)
until_comma (also (punctuation c spacing span) rest) = until_mark c spacing span rest (until_comma rest)
  where
    until_mark : (c : ℕ) (spacing : Spacing) (span : Span) (rest : TokenList) → Uncut rest (from_comma rest) → Uncut (also (punctuation c spacing span) rest) (from_comma (also (punctuation c spacing span) rest))
    until_mark c spacing span rest k = go (c == comma) refl
      where
        go : (x : Bool) → (c == comma) ≡ x → Uncut (also (punctuation c spacing span) rest) (from_comma (also (punctuation c spacing span) rest))
        go true e = subst (Uncut (also (punctuation c spacing span) rest)) (rw e refl) (record { front = none; whole = refl; is = refl; stays = refl })
        go false e = subst (Uncut (also (punctuation c spacing span) rest)) (rw e refl) (one_stayed (punctuation c spacing span) rest (from_comma rest) e k)

pub value_stays : (run rest : TokenList) (u : Unit {0}) → value_in run ≡ Ok (u, rest) → Uncut run rest
value_stays none rest u e = cc
value_stays (also (identifier text span) more) rest u e = subst (Uncut (also (identifier text span) more)) (same-rest tt u (from_comma more) rest e) (one_stayed (identifier text span) more (from_comma more) refl (until_comma more))
value_stays (also (literal text span) more) rest u e = subst (Uncut (also (literal text span) more)) (same-rest tt u (from_comma more) rest e) (one_stayed (literal text span) more (from_comma more) refl (until_comma more))
value_stays (also (doc text span) more) rest u e = subst (Uncut (also (doc text span) more)) (same-rest tt u (from_comma more) rest e) (one_stayed (doc text span) more (from_comma more) refl (until_comma more))
value_stays (also (group delimiter span inside) more) rest u e =
    subst (Uncut (also (group delimiter span inside) more)) (same-rest tt u (from_comma more) rest e) (one_stayed (group delimiter span inside) more (from_comma more) refl (until_comma more))
value_stays (also (punctuation c spacing span) more) rest u e = go (c == comma) refl
  where
    go : (x : Bool) → (c == comma) ≡ x → Uncut (also (punctuation c spacing span) more) rest
    go true f = let g : mismatch {A = Unit {0}} (also (punctuation c spacing span) more) ≡ Ok (u, rest) = rw f at e in cc
    go false f =
        let g : reading tt (from_comma more) ≡ reading u rest = rw f at e in
        subst (Uncut (also (punctuation c spacing span) more)) (same-rest tt u (from_comma more) rest g) (one_stayed (punctuation c spacing span) more (from_comma more) f (until_comma more))

-- a run that stays unchanged
pub no_number : (later : TokenSpot) (run rest : TokenList) (u : Unit {0}) → IsLate later → reading tt run ≡ reading u rest → NumberStays later run rest
no_number later run rest u l e =
    let same : run ≡ rest = same-rest tt u run rest e in subst (NumberStays later run) same (record { after = later; late = l; front = none; numbered = refl; is = refl; stays = refl })

pub equals_stays : (later : TokenSpot) (spacing : Spacing) (span : Span) (rest : TokenList) → IsLate later →
    sorted Variants later (also (punctuation equals spacing span) rest) ≡ Some (punctuation equals spacing span) ∷ sorted Variants Within rest
equals_stays Open spacing span rest l = absurd l
equals_stays Hash spacing span rest l = absurd l
equals_stays Gone spacing span rest l = absurd l
equals_stays Named spacing span rest l = refl
equals_stays Within spacing span rest l = refl

pub number_stays : (later : TokenSpot) (run rest : TokenList) (u : Unit {0}) → IsLate later → discriminant_in run ≡ Ok (u, rest) → NumberStays later run rest
number_stays later none rest u l e = no_number later none rest u l e
number_stays later (also (identifier text span) more) rest u l e = no_number later _ rest u l e
number_stays later (also (literal text span) more) rest u l e = no_number later _ rest u l e
number_stays later (also (doc text span) more) rest u l e = no_number later _ rest u l e
number_stays later (also (group delimiter span inside) more) rest u l e = no_number later _ rest u l e
number_stays later (also (punctuation c spacing span) more) rest u l e = go (c == equals) refl
  where
    go : (x : Bool) → (c == equals) ≡ x → NumberStays later (also (punctuation c spacing span) more) rest
    go true f =
        let g : value_in more ≡ Ok (u, rest) = rw f at e in
        let k = value_stays more rest u g in
        subst (λ (d : ℕ). NumberStays later (also (punctuation d spacing span) more) rest) (sym (eqb-true c equals f)) (record {
          after = Within;
          late = tt;
          front = also (punctuation equals spacing span) k.front;
          numbered = rw k.whole refl;
          is = ap (also (punctuation equals spacing span)) k.is;
          stays = equals_stays later spacing span more l ∙ ap (λ (p : List (Option Token)). Some (punctuation equals spacing span) ∷ p) k.stays;
        })
    go false f = let g : reading tt (also (punctuation c spacing span) more) ≡ reading u rest = rw f at e in no_number later _ rest u l g

pub variant_item : (run attributes next rest : TokenList) (name : Slice) (held : FieldsValue) → Attributed Variants run attributes (also (identifier name.text name.span) next) →
    (h : HeldStays held next rest) → (end : TokenList) → NumberStays h.later rest end → OneItem Variants VariantStays (variant_of attributes name held) run end
variant_item run attributes next rest name held a h end n =
    let ident = identifier name.text name.span in
    let number = n.front in
    let front = attributes_stay unchanged attributes in
    let inner : sorted Variants Named next ≡ (h.pieces ++ stay number) ++ sorted Variants n.after end =
    h.stays ∙ (ap (λ (l : List (Option Token)). h.pieces ++ l) n.stays ∙ sym (more_pieces h.pieces (stay number) (sorted Variants n.after end))) in
    let back : next ≡ append (append h.tokens number) end = h.is ∙ (ap (append h.tokens) n.is ∙ sym (append_append h.tokens number end)) in
    record {
      tokens = append attributes (also ident (append h.tokens number));
      pieces = front ++ (Some ident ∷ (h.pieces ++ stay number));
      later = n.after;
      late = n.late;
      item = record { attributes = a.proper; numbered = n.numbered; held = h.tokens; held_pieces = h.pieces; fields = h.fields; number = number; is = refl; stays = refl };
      is = a.is ∙ (ap (λ (l : TokenList). append attributes (also ident l)) back ∙ sym (append_append attributes (also ident (append h.tokens number)) end));
      stays = a.stays ∙ (ap (λ (l : List (Option Token)). front ++ (Some ident ∷ l)) inner ∙ sym (more_pieces front (Some ident ∷ (h.pieces ++ stay number)) (sorted Variants n.after end)));
    }

pub variant_named : (run attributes middle next rest end : TokenList) (name : Slice) (held : FieldsValue) → Attributed Variants run attributes middle → name_in middle ≡ Ok (name, next) →
    (h : HeldStays held next rest) → NumberStays h.later rest end → OneItem Variants VariantStays (variant_of attributes name held) run end
variant_named run attributes none next rest end name held a e h n = cc
variant_named run attributes (also (punctuation c spacing span) more) next rest end name held a e h n = cc
variant_named run attributes (also (literal text span) more) next rest end name held a e h n = cc
variant_named run attributes (also (doc text span) more) next rest end name held a e h n = cc
variant_named run attributes (also (group delimiter span inside) more) next rest end name held a e h n = cc
variant_named run attributes (also (identifier text span) more) next rest end name held a e h n =
    let here : Slice = record { text = text; span = span } in
    let same_name : here ≡ name = same-value here name more next e in
    let same : more ≡ next = same-rest here name more next e in
    let moved : Attributed Variants run attributes (also (identifier name.text name.span) more) = subst (λ (x : Slice). Attributed Variants run attributes (also (identifier x.text x.span) more)) same_name a in
    variant_item run attributes next rest name held (subst (λ (r : TokenList). Attributed Variants run attributes (also (identifier name.text name.span) r)) same moved) h end n

pub variant_stays : (run rest : TokenList) (value : VariantValue) → variant run (Ok (value, rest)) → OneItem Variants VariantStays value run rest
variant_stays run rest value (goes {value = attributes} {rest = middle} at (goes {value = name} {rest = next} nm (goes {value = held} {rest = after} hold (goes {value = u} {rest = end} dis g)))) =
    let h : HeldStays held next after = holding_stays next (Ok (held, after)) hold in
    let o = variant_named run attributes middle next after end name held (attributes_at Variants run attributes middle tt at) nm h (number_stays h.later after end u h.late dis) in
    subst (λ (x : VariantValue). OneItem Variants VariantStays x run rest) (same-value (variant_of attributes name held) value end rest g)
    (subst (λ (r : TokenList). OneItem Variants VariantStays (variant_of attributes name held) run r) (same-rest (variant_of attributes name held) value end rest g) o)

pub variants_stay : (run : TokenList) (outcome : Outcome (List VariantValue)) → variants run outcome → ListStays Variants VariantStays run outcome
variants_stay run outcome h = listed_stays Variants tt VariantStays variant variant_stays run outcome h
