-- The rest of an enum.
use Rattle.std.proofs.Common.{◌≡◌, true, false, List, [], ◌∷◌, ◌++◌, Option, Some, Ok, Err, refl, sym, ap, ◌∙◌, subst}
use Rattle.logos_lexeme.specs.declared.lexeme.Span.{Span}
use Rattle.logos_lexeme.specs.declared.lexeme.Delimiter.TheVariants.{Parenthesis, Bracket, Brace}
use Rattle.logos_token.specs.Tokens.{Token, TokenList, identifier, punctuation, literal, doc, group, none, also, append}
use Rattle.logos_enum.specs.Attributes.{announced_in}
use Rattle.logos_enum.specs.Enum.{variants, within, Body, braced, lacking, end_in, enum_of, item, Reads, reads}
use Rattle.logos_enum.specs.EnumValues.{VariantValue, EnumValue}
use Rattle.logos_enum.specs.Groups.{Opened, brace_in}
use Rattle.logos_enum.specs.Marks.{is_none}
use Rattle.logos_enum.specs.Rules.{Outcome, goes}
use Rattle.logos_enum.proofs.Once.{same-value}
use Rattle.logos_strip.specs.declared.spots.Scope.TheVariants.{Enum, Variants}
use Rattle.logos_strip.specs.declared.spots.TokenSpot.TheVariants.{Open, Within}
use Rattle.logos_strip.specs.Stripping.{left, sorted, stripped}
use Rattle.logos_laws.specs.readings.Stays.{stay, attributes_stay, derive_without_macro, are_attributes, begins_word}
use Rattle.logos_laws.specs.readings.StrippedParts.{ItemsStay, VariantStays, EnumStays}
use Rattle.logos_laws.proofs.spans.RuleParts.{Anything, Yields}
use Rattle.logos_laws.proofs.spans.TokenParts.{append_append}
use Rattle.logos_laws.proofs.spans.GenericParts.{name_yields, generics_keep}
use Rattle.logos_laws.proofs.spans.HeadParts.{announced_part, where_yields}
use Rattle.logos_laws.proofs.readings.Rests.{Back, back_rests, back_self}
use Rattle.logos_laws.proofs.readings.StripAttributes.{attributes_sound}
use Rattle.logos_laws.proofs.readings.StripItems.{ListStays, Attributed, attributes_at}
use Rattle.logos_laws.proofs.readings.StripVariants.{variants_stay}
use Rattle.logos_laws.proofs.readings.StripSound.{variants_sound}

-- ---- The braces.

-- a run that ends with braces, in which these variants stay so
record Ends (list : List VariantValue) (run : TokenList) : Type 0 where
  head : TokenList
  span : Span
  inside : TokenList
  pieces : List (Option Token)
  items : ItemsStay VariantStays list inside pieces
  stays : sorted Variants Open inside ≡ pieces
  is : run ≡ append head (also (group Brace span inside) none)

ends_back : (list : List VariantValue) (run rest : TokenList) → Back run rest → Ends list rest → Ends list run
ends_back list run rest b e = record {
  head = append b.front e.head;
  span = e.span;
  inside = e.inside;
  pieces = e.pieces;
  items = e.items;
  stays = e.stays;
  is = b.is ∙ (ap (append b.front) e.is ∙ sym (append_append b.front e.head (also (group Brace e.span e.inside) none)));
}

abbrev BodyEnds : TokenList → Outcome (List VariantValue) → Type 0
BodyEnds run (Ok read) = read.1 ≡ none → Ends read.0 run
BodyEnds run (Err error) = Unit {0}

braces_end : (span : Span) (inside rest : TokenList) (outcome : Outcome (List VariantValue)) → ListStays Variants VariantStays inside outcome →
    BodyEnds (also (group Brace span inside) rest) (within (λ (list : List VariantValue). list) rest outcome)
braces_end span inside rest (Ok read) (pieces, items, is) = λ e. record {
  head = none;
  span = span;
  inside = inside;
  pieces = pieces;
  items = items;
  stays = is;
  is = ap (also (group Brace span inside)) e;
}
braces_end span inside rest (Err error) k = tt

body_ends : (run : TokenList) (opened : Opened) (inner : Outcome (List VariantValue)) → brace_in run ≡ Some opened → variants opened.inside inner →
    BodyEnds run (within (λ (list : List VariantValue). list) opened.rest inner)
body_ends none opened inner e h = cc
body_ends (also (identifier text span) rest) opened inner e h = cc
body_ends (also (punctuation c spacing span) rest) opened inner e h = cc
body_ends (also (literal text span) rest) opened inner e h = cc
body_ends (also (doc text span) rest) opened inner e h = cc
body_ends (also (group Parenthesis span inside) rest) opened inner e h = cc
body_ends (also (group Bracket span inside) rest) opened inner e h = cc
body_ends (also (group Brace span inside) rest) opened inner e h =
    let here : Opened = record { span = span; inside = inside; rest = rest } in
    let same : here ≡ opened = cc in
    let k : variants inside inner = subst (λ (o : Opened). variants o.inside inner) (sym same) h in
    subst (λ (o : Opened). BodyEnds (also (group Brace span inside) rest) (within (λ (list : List VariantValue). list) o.rest inner)) same (braces_end span inside rest inner (variants_stay inside inner k))

body_outcome : (run : TokenList) (outcome : Outcome (List VariantValue)) → Body run outcome → BodyEnds run outcome
body_outcome run outcome (braced opened inner e h) = body_ends run opened inner e h
body_outcome run outcome (lacking e) = tt

end_none : (run rest : TokenList) (u : Unit {0}) → end_in run ≡ Ok (u, rest) → run ≡ none
end_none none rest u e = refl
end_none (also token more) rest u e = cc

-- ---- The tokens that stay, from the visibility on.

not_last : (head : TokenList) (token : Token) → is_none (append head (also token none)) ≡ false
not_last none token = refl
not_last (also first rest) token = refl

body_stays : (head : TokenList) (span : Span) (inside : TokenList) →
    sorted Enum Within (append head (also (group Brace span inside) none)) ≡ stay head ++ (Some (group Brace span (left (sorted Variants Open inside))) ∷ [])
body_stays none span inside = refl
body_stays (also (identifier text at) head) span inside = ap (λ (l : List (Option Token)). Some (identifier text at) ∷ l) (body_stays head span inside)
body_stays (also (punctuation c spacing at) head) span inside = ap (λ (l : List (Option Token)). Some (punctuation c spacing at) ∷ l) (body_stays head span inside)
body_stays (also (literal text at) head) span inside = ap (λ (l : List (Option Token)). Some (literal text at) ∷ l) (body_stays head span inside)
body_stays (also (doc text at) head) span inside = ap (λ (l : List (Option Token)). Some (doc text at) ∷ l) (body_stays head span inside)
body_stays (also (group Parenthesis at other) head) span inside = ap (λ (l : List (Option Token)). Some (group Parenthesis at other) ∷ l) (body_stays head span inside)
body_stays (also (group Bracket at other) head) span inside = ap (λ (l : List (Option Token)). Some (group Bracket at other) ∷ l) (body_stays head span inside)
body_stays (also (group Brace at other) head) span inside =
    rw (not_last head (group Brace span inside)) (ap (λ (l : List (Option Token)). Some (group Brace at other) ∷ l) (body_stays head span inside))

word_comes : (run rest : TokenList) → announced_in run ≡ Some rest → begins_word run ≡ true
word_comes none rest e = cc
word_comes (also (identifier text span) more) rest e = refl
word_comes (also (punctuation c spacing span) more) rest e = cc
word_comes (also (literal text span) more) rest e = cc
word_comes (also (doc text span) more) rest e = cc
word_comes (also (group delimiter span inside) more) rest e = cc

word_within : (run : TokenList) → begins_word run ≡ true → sorted Enum Open run ≡ sorted Enum Within run
word_within none e = cc
word_within (also (identifier text span) more) e = refl
word_within (also (punctuation c spacing span) more) e = cc
word_within (also (literal text span) more) e = cc
word_within (also (doc text span) more) e = cc
word_within (also (group delimiter span inside) more) e = cc

-- the tokens before braces begin with a word
word_before : (head : TokenList) (span : Span) (inside : TokenList) → begins_word (append head (also (group Brace span inside) none)) ≡ true → begins_word head ≡ true
word_before none span inside e = cc
word_before (also (identifier text at) head) span inside e = refl
word_before (also (punctuation c spacing at) head) span inside e = cc
word_before (also (literal text at) head) span inside e = cc
word_before (also (doc text at) head) span inside e = cc
word_before (also (group delimiter at other) head) span inside e = cc

word_after : (head rest : TokenList) → begins_word head ≡ true → begins_word (append head rest) ≡ true
word_after none rest e = cc
word_after (also (identifier text at) head) rest e = refl
word_after (also (punctuation c spacing at) head) rest e = cc
word_after (also (literal text at) head) rest e = cc
word_after (also (doc text at) head) rest e = cc
word_after (also (group delimiter at other) head) rest e = cc

enum_with : (tokens attributes middle : TokenList) (value : EnumValue) (list : List VariantValue) → value.attributes ≡ attributes → value.variants ≡ list →
    Attributed Enum tokens attributes middle → begins_word middle ≡ true → Ends list middle → EnumStays value tokens (stripped tokens)
enum_with tokens attributes middle value list va vl a w e =
    let body : sorted Enum Within middle ≡ stay e.head ++ (Some (group Brace e.span (left e.pieces)) ∷ []) =
    ap (sorted Enum Within) e.is ∙ (body_stays e.head e.span e.inside ∙ ap (λ (l : List (Option Token)). stay e.head ++ (Some (group Brace e.span (left l)) ∷ [])) e.stays) in
    let whole : sorted Enum Open tokens ≡ attributes_stay derive_without_macro attributes ++ (stay e.head ++ (Some (group Brace e.span (left e.pieces)) ∷ [])) =
    a.stays ∙ ap (λ (l : List (Option Token)). attributes_stay derive_without_macro attributes ++ l) (word_within middle w ∙ body) in
    record {
      attributes = ap are_attributes va ∙ a.proper;
      word = word_before e.head e.span e.inside (ap begins_word (sym e.is) ∙ w);
      head = e.head;
      span = e.span;
      inside = e.inside;
      pieces = e.pieces;
      variants = subst (λ (l : List VariantValue). ItemsStay VariantStays l e.inside e.pieces) (sym vl) e.items;
      is = a.is ∙ (ap (append attributes) e.is ∙ ap (λ (l : TokenList). append l (append e.head (also (group Brace e.span e.inside) none))) (sym va));
      stays = ap left (whole ∙ ap (λ (l : TokenList). attributes_stay derive_without_macro l ++ (stay e.head ++ (Some (group Brace e.span (left e.pieces)) ∷ []))) (sym va));
    }

item_ends : (attributes rest : TokenList) (value : EnumValue) → item attributes rest (Ok (value, none)) → (value.attributes ≡ attributes) × Ends value.variants rest
item_ends attributes rest value (goes {value = name} {rest = r1} nm (goes {value = ps} {rest = r2} ge (goes {value = w} {rest = r3} wh (goes {value = list} {rest = r4} body (goes {value = u} {rest = r5} en g))))) =
    let one : Back rest r1 = (subst (Yields (Back rest) Anything) nm (name_yields (Back rest) (back_rests rest) rest (back_self rest))).1 in
    let two : Back rest r2 = (generics_keep (Back rest) (back_rests rest) r1 (Ok (ps, r2)) one ge).1 in
    let three : Back rest r3 = (subst (Yields (Back rest) Anything) wh (where_yields (Back rest) (back_rests rest) r2 two)).1 in
    let ends : Ends list r3 = body_outcome r3 (Ok (list, r4)) body (end_none r4 r5 u en) in
    let same : enum_of attributes name ps list ≡ value = same-value (enum_of attributes name ps list) value r5 none g in
    subst (λ (v : EnumValue). (v.attributes ≡ attributes) × Ends v.variants rest) same (refl, ends_back list rest r3 three ends)

pub enum_stays : (tokens : TokenList) (value : EnumValue) → Reads tokens (Ok value) → EnumStays value tokens (stripped tokens)
enum_stays tokens value (reads {attributes = attributes} {rest = rest} front it) =
    let k = item_ends attributes rest value it in
    let middle = front.middle in
    let from : Back middle rest = announced_part (Back middle) (back_rests middle) middle rest (back_self middle) front.announced in
    enum_with tokens attributes middle value value.variants k.0 refl (attributes_at Enum tokens attributes middle tt front.occur) (word_comes middle rest front.announced) (ends_back value.variants middle rest from k.1)

-- ---- The result of stripping, part by part.

pub enum_sound : (tokens remaining : TokenList) (value : EnumValue) → EnumStays value tokens remaining → remaining ≡ stripped tokens
enum_sound tokens remaining value e =
    let last = also (group Brace e.span e.inside) none in
    let front = attributes_stay derive_without_macro value.attributes in
    let all = attributes_sound Enum tt (append e.head last) value.attributes e.attributes in
    let body : sorted Enum Open (append e.head last) ≡ stay e.head ++ (Some (group Brace e.span (left e.pieces)) ∷ []) =
    word_within (append e.head last) (word_after e.head last e.word)
    ∙ (body_stays e.head e.span e.inside ∙ ap (λ (l : List (Option Token)). stay e.head ++ (Some (group Brace e.span (left l)) ∷ [])) (variants_sound value.variants e.inside e.pieces e.variants)) in
    e.stays ∙ sym (ap left (ap (sorted Enum Open) e.is ∙ (all ∙ ap (λ (l : List (Option Token)). front ++ l) body)))
