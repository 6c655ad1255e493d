-- Leaves of variants and skips, without a fault.
use Rattle.std.proofs.Common.{◌≡◌, ℕ, List, [], ◌∷◌, ◌++◌, map, codes, true, false, Option, Some, None, ◌∙◌, ap, sym, refl, subst}
use Rattle.std.specs.Prelude.{option_map}
use Rattle.std.specs.Option.{option_to_list}
use Rattle.std.specs.Str.{bytes_eq}
use Rattle.std.proofs.lemmas.List.{map-append}
use Rattle.std.proofs.lemmas.Slice.Eq.{bytes_eq-Decides}
use Rattle.logos_token.specs.Faults.{Fault}
use Rattle.logos_token.specs.Tokens.{TokenList}
use Rattle.logos_token.specs.declared.token.Ident.{Ident}
use Rattle.logos_type.specs.Parts.{Tree as TypeTree}
use Rattle.logos_type_params.specs.Substitution.{Params, given}
use Rattle.logos_enum.specs.AttributeValues.{AttributeValue, SplitAttribute, attribute_in}
use Rattle.logos_enum.specs.EnumValues.{FieldsValue, VariantValue}
use Rattle.logos_enum.specs.Values.{ident_slice}
use Rattle.logos_pattern.specs.Leaf.{KindValue, skipped}
use Rattle.logos_attribute.specs.Reports.{IsReport}
use Rattle.logos_definition.specs.Attributes.{meta_report}
use Rattle.logos_definition.specs.Definitions.{DefinitionView}
use Rattle.logos_definition.specs.Metas.{Meta, meta_of}
use Rattle.logos_leaf.specs.subpattern.Substitution.{Stored}
use Rattle.logos_leaf.specs.Leaves.{LeafView, IsTokenLeaf, IsRegexLeaf}
use Rattle.logos_leaf.specs.Variants.{holds, KindIs, no_field, empty, with_first, with_names, is_named, TokenYields, no_token, a_token, RegexYields, no_regex, a_regex, AttributeYields, on_error, on_token, on_regex, on_other, AttributesAdd, no_attribute, one_attribute, VariantAdds, VariantsAdd, no_variant, one_variant, SkipsAdd, no_skip, one_skip}
use Rattle.logos_leaf.proofs.agreement.Report.{Grows, Agree, grows_by, grows_same, grows_then, report_grows, none_before, never, none_added, added_none, report_once, no_some, the_same, not_both}
use Rattle.logos_leaf.proofs.agreement.Types.{gets_grows, gets_once}
use Rattle.logos_leaf.proofs.agreement.Leaves.{ShownKind, shown_kind, Shown, shown, token_once, regex_once}

-- ---- kinds

kind_grows : {p : Params} {name : Ident} {old new : List Fault} {fields : FieldsValue} {kind : KindValue} → KindIs p name old new fields kind → Grows old new
kind_grows (no_field e) = grows_same e
kind_grows (empty l) = grows_by _ l
kind_grows (with_first m (holds g)) = grows_then (grows_by _ m) (gets_grows g)
kind_grows (with_names l) = grows_by _ l

module _ (p q : Params) (same : (text : List ℕ) → given p text ≡ given q text) where
  holding_same : (a b : Ident) {t u : TypeTree} → ident_slice a ≡ ident_slice b → t ≡ u → ◌≡◌ {A = ShownKind} (Some (ident_slice a, Some t)) (Some (ident_slice b, Some u))
  holding_same a b e f = λ i. Some (e i, Some (f i))

  kind_once : {a b : Ident} {old new old' new' : List Fault} {fields : FieldsValue} {kind kind' : KindValue} → ident_slice a ≡ ident_slice b → new ≡ [] → KindIs p a old new fields kind →
      KindIs q b old' new' fields kind' → Agree (shown_kind kind) (shown_kind kind') old' new'
  kind_once s n (no_field e) (no_field f) = (f, λ i. Some (s i, None))
  kind_once s n (empty l) k = absurd (never _ _ _ l n)
  kind_once {a} {b} s n (with_first m (holds g)) (with_first l (holds h)) =
      let k = gets_once p q same n g h in
      (k.0 ∙ added_none l (none_added _ m (none_before (gets_grows g) n)), holding_same a b s k.1)
  kind_once s n (with_names l) k = absurd (never _ _ _ l n)

-- ---- attributes

token_grows : {kind : KindValue} {attribute : AttributeValue} {old new : List Fault} {leaf : Option LeafView} → TokenYields kind attribute old new leaf → Grows old new
token_grows (no_token t l) = grows_then (report_grows _ t) (grows_by _ l)
token_grows (a_token t i) = grows_then (report_grows _ t) (report_grows _ i.reports)

regex_grows : {names : List Stored} {kind : KindValue} {attribute : AttributeValue} {old new : List Fault} {leaf : Option LeafView} → RegexYields names kind attribute old new leaf → Grows old new
regex_grows (no_regex t l) = grows_then (report_grows _ t) (grows_by _ l)
regex_grows (a_regex t i) = grows_then (report_grows _ t) (report_grows _ i.reports)

yields_grows : {names : List Stored} {kind : KindValue} {attribute : AttributeValue} {old new : List Fault} {leaf : Option LeafView} → AttributeYields names kind attribute old new leaf → Grows old new
yields_grows (on_error e l) = grows_by _ l
yields_grows (on_token e t) = token_grows t
yields_grows (on_regex e r) = regex_grows r
yields_grows (on_other e f g s) = grows_same s

attributes_grow : {names : List Stored} {kind : KindValue} {run : TokenList} {before after : List LeafView} {old new : List Fault} → AttributesAdd names kind run before after old new → Grows old new
attributes_grow (no_attribute e) = grows_same refl
attributes_grow (one_attribute e g rest) = grows_then (yields_grows g) (attributes_grow rest)

-- an attribute has one name
one_name : (meta : Option Meta) (a b : List ℕ) → is_named meta a ≡ true → is_named meta b ≡ true → bytes_eq a b ≡ true
one_name None a b e f = cc
one_name (Some meta) a b e f = (bytes_eq-Decides a b).1 (sym ((bytes_eq-Decides meta.name.text a).0 e) ∙ (bytes_eq-Decides meta.name.text b).0 f)

not_true : false ≡ true → ⊥
not_true e = cc

map_leaf : (before : List LeafView) (leaf : Option LeafView) → map shown (before ++ option_to_list leaf) ≡ map shown before ++ option_to_list (option_map shown leaf)
map_leaf before None = map-append shown before []
map_leaf before (Some leaf) = map-append shown before (leaf ∷ [])

leaves_alike : (before before' : List LeafView) (leaf leaf' : Option LeafView) → map shown before ≡ map shown before' → option_map shown leaf ≡ option_map shown leaf' →
    map shown (before ++ option_to_list leaf) ≡ map shown (before' ++ option_to_list leaf')
leaves_alike before before' leaf leaf' e f =
    map_leaf before leaf ∙ (ap (λ (xs : List Shown). xs ++ option_to_list (option_map shown leaf)) e ∙ (ap (λ (x : Option Shown). map shown before' ++ option_to_list x) f ∙ sym (map_leaf before' leaf')))

definition_once : {x y : Option DefinitionView} {new new' : List Fault} (attribute : AttributeValue) (old old' : List Fault) → new ≡ [] → IsReport (meta_report (meta_of attribute)) x old new →
    IsReport (meta_report (meta_of attribute)) y old' new' → Agree x y old' new'
definition_once attribute old old' n t u = report_once old refl n t u

module _ {kind other : KindValue} (alike : shown_kind kind ≡ shown_kind other) where
  token_yields_once : {attribute : AttributeValue} {old new old' new' : List Fault} {leaf leaf' : Option LeafView} → new ≡ [] → TokenYields kind attribute old new leaf →
      TokenYields other attribute old' new' leaf' → Agree (option_map shown leaf) (option_map shown leaf') old' new'
  token_yields_once n (no_token t l) g = absurd (never _ _ _ l n)
  token_yields_once {attribute = a} {old = c} {old' = c'} n (a_token t i) (no_token u l) = absurd (no_some (definition_once a c c' (none_before (report_grows _ i.reports) n) t u).1)
  token_yields_once {attribute = a} {old = c} {old' = c'} {new' = new'} {leaf' = leaf'} n (a_token {definition = d} t i) (a_token {mid = m} u j) =
      let k = definition_once a c c' (none_before (report_grows _ i.reports) n) t u in
      let h = token_once d kind other alike n i (subst (λ (x : DefinitionView). IsTokenLeaf x other leaf' m new') (sym (the_same k.1)) j) in
      (h.0 ∙ k.0, h.1)

  regex_yields_once : {names : List Stored} {attribute : AttributeValue} {old new old' new' : List Fault} {leaf leaf' : Option LeafView} → new ≡ [] → RegexYields names kind attribute old new leaf →
      RegexYields names other attribute old' new' leaf' → Agree (option_map shown leaf) (option_map shown leaf') old' new'
  regex_yields_once n (no_regex t l) g = absurd (never _ _ _ l n)
  regex_yields_once {attribute = a} {old = c} {old' = c'} n (a_regex t i) (no_regex u l) = absurd (no_some (definition_once a c c' (none_before (report_grows _ i.reports) n) t u).1)
  regex_yields_once {names} {attribute = a} {old = c} {old' = c'} {new' = new'} {leaf' = leaf'} n (a_regex {definition = d} t i) (a_regex {mid = m} u j) =
      let k = definition_once a c c' (none_before (report_grows _ i.reports) n) t u in
      let h = regex_once d kind other alike n i (subst (λ (x : DefinitionView). IsRegexLeaf x other names leaf' m new') (sym (the_same k.1)) j) in
      (h.0 ∙ k.0, h.1)

  yields_once : {names : List Stored} {attribute : AttributeValue} {old new old' new' : List Fault} {leaf leaf' : Option LeafView} → new ≡ [] → AttributeYields names kind attribute old new leaf →
      AttributeYields names other attribute old' new' leaf' → Agree (option_map shown leaf) (option_map shown leaf') old' new'
  yields_once n (on_error e l) g = absurd (never _ _ _ l n)
  yields_once {attribute = a} n (on_token e t) (on_error f l) = absurd (not_true (one_name (meta_of a) (codes "token") (codes "error") e f))
  yields_once n (on_token e t) (on_token f u) = token_yields_once n t u
  yields_once {attribute = a} n (on_token e t) (on_regex f r) = absurd (not_true (one_name (meta_of a) (codes "token") (codes "regex") e f))
  yields_once n (on_token e t) (on_other f g h s) = absurd (not_both e g)
  yields_once {attribute = a} n (on_regex e r) (on_error f l) = absurd (not_true (one_name (meta_of a) (codes "regex") (codes "error") e f))
  yields_once {attribute = a} n (on_regex e r) (on_token f u) = absurd (not_true (one_name (meta_of a) (codes "regex") (codes "token") e f))
  yields_once n (on_regex e r) (on_regex f s) = regex_yields_once n r s
  yields_once n (on_regex e r) (on_other f g h s) = absurd (not_both e h)
  yields_once n (on_other e f g s) (on_error h l) = absurd (not_both h e)
  yields_once n (on_other e f g s) (on_token h u) = absurd (not_both h f)
  yields_once n (on_other e f g s) (on_regex h r) = absurd (not_both h g)
  yields_once n (on_other e f g s) (on_other h k l t) = (t, refl)

  attributes_once : {names : List Stored} {run run' : TokenList} {before after before' after' : List LeafView} {old new old' new' : List Fault} → run ≡ run' →
      map shown before ≡ map shown before' → new ≡ [] → AttributesAdd names kind run before after old new → AttributesAdd names other run' before' after' old' new' →
      Agree (map shown after) (map shown after') old' new'
  attributes_once r b n (no_attribute e) (no_attribute f) = (refl, b)
  attributes_once r b n (no_attribute e) (one_attribute f g rest) = absurd (no_some (sym f ∙ (sym (ap attribute_in r) ∙ e)))
  attributes_once r b n (one_attribute e g rest) (no_attribute f) = absurd (no_some (sym e ∙ (ap attribute_in r ∙ f)))
  attributes_once {names} {before = c} {before' = c'} r b n (one_attribute {leaf = leaf} e g rest) (one_attribute {leaf = leaf'} {old = l} {mid = m} f h others) =
      let s = the_same (sym e ∙ (ap attribute_in r ∙ f)) in
      let k = yields_once (none_before (attributes_grow rest) n) g (subst (λ (x : SplitAttribute). AttributeYields names other x.attribute l m leaf') (sym s) h) in
      let j = attributes_once (ap (λ (x : SplitAttribute). x.rest) s) (leaves_alike c c' leaf leaf' b k.1) n rest others in
      (j.0 ∙ k.0, j.1)

-- ---- variants

variant_grows : {p : Params} {names : List Stored} {variant : VariantValue} {before after : List LeafView} {old new : List Fault} → VariantAdds p names variant before after old new → Grows old new
variant_grows a = grows_then (kind_grows a.is_kind) (attributes_grow a.add)

pub variants_grow : {p : Params} {names : List Stored} {list : List VariantValue} {before after : List LeafView} {old new : List Fault} → VariantsAdd p names list before after old new → Grows old new
variants_grow no_variant = grows_same refl
variants_grow (one_variant a rest) = grows_then (variant_grows a) (variants_grow rest)

module _ (p q : Params) (same : (text : List ℕ) → given p text ≡ given q text) where
  variant_once : {names : List Stored} {variant : VariantValue} {before after before' after' : List LeafView} {old new old' new' : List Fault} → map shown before ≡ map shown before' → new ≡ [] →
      VariantAdds p names variant before after old new → VariantAdds q names variant before' after' old' new' → Agree (map shown after) (map shown after') old' new'
  variant_once e n a b =
      let k = kind_once p q same (a.is_name ∙ sym b.is_name) (none_before (attributes_grow a.add) n) a.is_kind b.is_kind in
      let j = attributes_once k.1 refl e n a.add b.add in
      (j.0 ∙ k.0, j.1)

  pub variants_once : {names : List Stored} {list : List VariantValue} {before after before' after' : List LeafView} {old new old' new' : List Fault} → map shown before ≡ map shown before' → new ≡ [] →
      VariantsAdd p names list before after old new → VariantsAdd q names list before' after' old' new' → Agree (map shown after) (map shown after') old' new'
  variants_once e n no_variant no_variant = (refl, e)
  variants_once e n (one_variant a rest) (one_variant b others) =
      let k = variant_once e (none_before (variants_grow rest) n) a b in
      let j = variants_once k.1 n rest others in
      (j.0 ∙ k.0, j.1)

-- ---- skips

pub skips_grow : {names : List Stored} {list : List DefinitionView} {before after : List LeafView} {old new : List Fault} → SkipsAdd names list before after old new → Grows old new
skips_grow no_skip = grows_same refl
skips_grow (one_skip i rest) = grows_then (report_grows _ i.reports) (skips_grow rest)

pub skips_once : {names : List Stored} {list : List DefinitionView} {before after before' after' : List LeafView} {old new old' new' : List Fault} → map shown before ≡ map shown before' → new ≡ [] →
    SkipsAdd names list before after old new → SkipsAdd names list before' after' old' new' → Agree (map shown after) (map shown after') old' new'
skips_once e n no_skip no_skip = (refl, e)
skips_once {before = c} {before' = c'} e n (one_skip {definition = d} {leaf = leaf} i rest) (one_skip {leaf = leaf'} j others) =
    let k = regex_once d skipped skipped refl (none_before (skips_grow rest) n) i j in
    let h = skips_once (leaves_alike c c' leaf leaf' e k.1) n rest others in
    (h.0 ∙ k.0, h.1)
