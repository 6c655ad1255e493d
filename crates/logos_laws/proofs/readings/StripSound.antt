-- The facts that parts imply about the tokens that stay.
use Rattle.std.proofs.Common.{◌≡◌, ◌==◌, ◌||◌, not, ℕ, Bool, true, false, IsTrue, List, ◌∷◌, ◌++◌, Option, Some, refl, sym, ap, ◌∙◌, subst, eqb-true}
use Rattle.logos_lexeme.specs.declared.lexeme.Delimiter.TheVariants.{Parenthesis, Brace}
use Rattle.logos_token.specs.Tokens.{Token, TokenList, identifier, punctuation, literal, doc, group, none, also, append}
use Rattle.logos_enum.specs.EnumValues.{FieldValue, FieldsValue, VariantValue}
use Rattle.logos_enum.specs.Marks.{equals}
use Rattle.logos_token.proofs.reading.NestingLemmas.{append-none}
use Rattle.logos_strip.specs.declared.spots.Scope.{Scope}
use Rattle.logos_strip.specs.declared.spots.Scope.TheVariants.{Variants, Fields}
use Rattle.logos_strip.specs.declared.spots.TokenSpot.{TokenSpot}
use Rattle.logos_strip.specs.declared.spots.TokenSpot.TheVariants.{Open, Named, Within}
use Rattle.logos_strip.specs.Helpers.{is_comma}
use Rattle.logos_strip.specs.Stripping.{left, sorted}
use Rattle.logos_laws.specs.readings.Stays.{stay, unchanged, attributes_stay, has_comma, is_number}
use Rattle.logos_laws.specs.readings.StrippedParts.{ItemsStay, no_item, last_item, one_more, FieldStays, FieldsStay, no_group, a_tuple, with_names, VariantStays}
use Rattle.logos_laws.proofs.spans.TokenParts.{append_append}
use Rattle.logos_laws.proofs.readings.StripAttributes.{attributes_sound, both_true, more_pieces}
use Rattle.logos_laws.proofs.readings.StripItems.{plain_sound, IsLate, HasItems, comma_step, no_more}
use Rattle.logos_laws.proofs.readings.StripVariants.{one_stays, equals_stays}

module _ {A : Type 0} (scope : Scope) (has : HasItems scope) (Item : A → TokenList → List (Option Token) → Type 0)
    (each : (value : A) (tokens : TokenList) (pieces : List (Option Token)) → Item value tokens pieces → (rest : TokenList) →
    (later : TokenSpot) × IsLate later × (sorted scope Open (append tokens rest) ≡ pieces ++ sorted scope later rest)) where
  comma_sound : (token : Token) (later : TokenSpot) (rest : TokenList) → IsLate later → IsTrue (is_comma token) → sorted scope later (also token rest) ≡ Some token ∷ sorted scope Open rest
  comma_sound (punctuation c p s) later rest l e = comma_step scope later c p s rest has l e
  comma_sound (identifier text span) later rest l e = cc
  comma_sound (literal text span) later rest l e = cc
  comma_sound (doc text span) later rest l e = cc
  comma_sound (group delimiter span inside) later rest l e = cc

  pub items_sound : (list : List A) (run : TokenList) (pieces : List (Option Token)) → ItemsStay Item list run pieces → sorted scope Open run ≡ pieces
  items_sound list run pieces no_item = refl
  items_sound list run pieces (last_item {value = value} i) =
      let k = each value run pieces i none in ap (sorted scope Open) (sym (append-none run)) ∙ (k.2 ∙ no_more pieces)
  items_sound list run pieces (one_more {value = value} {values = values} {tokens = tokens} {rest = rest} {pieces = front} {others = others} token i e h) =
      let k = each value tokens front i (also token rest) in
      k.2 ∙ ap (λ (l : List (Option Token)). front ++ l) (comma_sound token k.0 rest k.1 e ∙ ap (λ (l : List (Option Token)). Some token ∷ l) (items_sound values rest others h))

field_sound : (value : FieldValue) (tokens : TokenList) (pieces : List (Option Token)) → FieldStays value tokens pieces → (rest : TokenList) →
    (later : TokenSpot) × IsLate later × (sorted Fields Open (append tokens rest) ≡ pieces ++ sorted Fields later rest)
field_sound value tokens pieces f rest =
    let front = attributes_stay unchanged value.attributes in
    let whole : append tokens rest ≡ append value.attributes (append f.rest rest) = ap (λ (r : TokenList). append r rest) f.is ∙ append_append value.attributes f.rest rest in
    let inner : sorted Fields Open (append f.rest rest) ≡ stay f.rest ++ sorted Fields Within rest = plain_sound true f.rest rest f.plain in
    let all = attributes_sound Fields tt (append f.rest rest) value.attributes f.attributes in (
      Within,
      tt,
      ap (sorted Fields Open) whole ∙ (all ∙ (ap (λ (l : List (Option Token)). front ++ l) inner
          ∙ (sym (more_pieces front (stay f.rest) (sorted Fields Within rest)) ∙ ap (λ (l : List (Option Token)). l ++ sorted Fields Within rest) (sym f.stays)))),
    )

held_sound : (held : FieldsValue) (tokens : TokenList) (pieces : List (Option Token)) → FieldsStay held tokens pieces → (rest : TokenList) →
    (later : TokenSpot) × IsLate later × (sorted Variants Named (append tokens rest) ≡ pieces ++ sorted Variants later rest)
held_sound held tokens pieces no_group rest = (Named, tt, refl)
held_sound held tokens pieces (a_tuple {span = span} {fields = list} {inside = inside} {pieces = inner} items) rest =
    (Within, tt, ap (λ (l : List (Option Token)). Some (group Parenthesis span (left l)) ∷ sorted Variants Within rest) (items_sound Fields tt FieldStays field_sound list inside inner items))
held_sound held tokens pieces (with_names {span = span} {fields = list} {inside = inside} {pieces = inner} items) rest =
    (Within, tt, ap (λ (l : List (Option Token)). Some (group Brace span (left l)) ∷ sorted Variants Within rest) (items_sound Fields tt FieldStays field_sound list inside inner items))

no_comma_first : (x y : Bool) → (x || y) ≡ false → (x ≡ false) × (y ≡ false)
no_comma_first true y e = cc
no_comma_first false y e = (refl, e)

uncut_sound : (front rest : TokenList) → has_comma front ≡ false → sorted Variants Within (append front rest) ≡ stay front ++ sorted Variants Within rest
uncut_sound none rest e = refl
uncut_sound (also token front) rest e =
    let k = no_comma_first (is_comma token) (has_comma front) e in one_stays token (append front rest) k.0 ∙ ap (λ (l : List (Option Token)). Some token ∷ l) (uncut_sound front rest k.1)

negated : (x : Bool) → not x ≡ true → x ≡ false
negated true e = cc
negated false e = refl

number_sound : (later : TokenSpot) (front rest : TokenList) → IsLate later → is_number front ≡ true →
    (after : TokenSpot) × IsLate after × (sorted Variants later (append front rest) ≡ stay front ++ sorted Variants after rest)
number_sound later none rest l e = (later, l, refl)
number_sound later (also (identifier text span) front) rest l e = cc
number_sound later (also (literal text span) front) rest l e = cc
number_sound later (also (doc text span) front) rest l e = cc
number_sound later (also (group delimiter span inside) front) rest l e = cc
number_sound later (also (punctuation c spacing span) front) rest l e =
    let k = both_true (c == equals) (not (has_comma front)) e in
    let first : sorted Variants later (also (punctuation c spacing span) (append front rest)) ≡ Some (punctuation c spacing span) ∷ sorted Variants Within (append front rest) =
    subst (λ (d : ℕ). sorted Variants later (also (punctuation d spacing span) (append front rest)) ≡ Some (punctuation d spacing span) ∷ sorted Variants Within (append front rest)) (sym (eqb-true c equals k.0)) (equals_stays later spacing span (append front rest) l) in
    (Within, tt, first ∙ ap (λ (p : List (Option Token)). Some (punctuation c spacing span) ∷ p) (uncut_sound front rest (negated (has_comma front) k.1)))

variant_sound : (value : VariantValue) (tokens : TokenList) (pieces : List (Option Token)) → VariantStays value tokens pieces → (rest : TokenList) →
    (later : TokenSpot) × IsLate later × (sorted Variants Open (append tokens rest) ≡ pieces ++ sorted Variants later rest)
variant_sound value tokens pieces v rest =
    let ident = identifier value.name.text value.name.span in
    let front = attributes_stay unchanged value.attributes in
    let h = held_sound value.fields v.held v.held_pieces v.fields (append v.number rest) in
    let n = number_sound h.0 v.number rest h.1 v.numbered in
    let next : append (append v.held v.number) rest ≡ append v.held (append v.number rest) = append_append v.held v.number rest in
    let whole : append tokens rest ≡ append value.attributes (also ident (append v.held (append v.number rest))) =
    ap (λ (r : TokenList). append r rest) v.is ∙ (append_append value.attributes (also ident (append v.held v.number)) rest ∙ ap (λ (r : TokenList). append value.attributes (also ident r)) next) in
    let inner : sorted Variants Named (append v.held (append v.number rest)) ≡ (v.held_pieces ++ stay v.number) ++ sorted Variants n.0 rest =
    h.2 ∙ (ap (λ (l : List (Option Token)). v.held_pieces ++ l) n.2 ∙ sym (more_pieces v.held_pieces (stay v.number) (sorted Variants n.0 rest))) in
    let all = attributes_sound Variants tt (also ident (append v.held (append v.number rest))) value.attributes v.attributes in (
      n.0,
      n.1,
      ap (sorted Variants Open) whole ∙ (all ∙ (ap (λ (l : List (Option Token)). front ++ (Some ident ∷ l)) inner
          ∙ (sym (more_pieces front (Some ident ∷ (v.held_pieces ++ stay v.number)) (sorted Variants n.0 rest)) ∙ ap (λ (l : List (Option Token)). l ++ sorted Variants n.0 rest) (sym v.stays)))),
    )

pub variants_sound : (list : List VariantValue) (run : TokenList) (pieces : List (Option Token)) → ItemsStay VariantStays list run pieces → sorted Variants Open run ≡ pieces
variants_sound list run pieces h = items_sound Variants tt VariantStays variant_sound list run pieces h
