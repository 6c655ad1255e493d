-- Names of groups in a set, by their characters.
use Rattle.std.proofs.Common.{◌≡◌, ℕ, Bool, true, false, not, ◌||◌, List, [], ◌∷◌, Vec, Global, bytes_eq, refl, sym, ap, ap₂, ◌∙◌}
use Rattle.std.specs.List.{list_any}
use Rattle.std.specs.Ordering.{match_ordering, is_eq, nat_cmp}
use Rattle.std.specs.declared.cmp.Ordering.{Ordering}
use Rattle.std.specs.declared.cmp.Ordering.TheVariants.{Less, Equal, Greater}
use Rattle.std.specs.Cmp.Lexicographic.{slice_cmp, bytes_decides}
use Rattle.std.specs.BTreeSet.{insert_key}
use Rattle.std.proofs.lemmas.Map.Text.{is_eq-slice_cmp}
use Rattle.logos_syntax.specs.declared.names.GroupNames.{GroupNames}
use Rattle.logos_pattern_tokens.specs.Token.{Text, named, opens}
use Rattle.logos_syntax.specs.inside.GroupNames.{HasNames, Admits}

abbrev pub Key : Type 0
Key = Vec ℕ Global

abbrev pub key_cmp : Key → Key → Ordering
key_cmp x y = slice_cmp nat_cmp x.items y.items

or_swap : (a b c : Bool) → (a || (b || c)) ≡ (b || (a || c))
or_swap true true c = refl
or_swap true false c = refl
or_swap false true c = refl
or_swap false false c = refl

or_twice : (a b : Bool) → (a || b) ≡ (a || (a || b))
or_twice true b = refl
or_twice false b = refl

-- a name is among the keys with one more
pub among_more : (name : Text) (key : Key) (keys : List Key) → list_any (λ k. bytes_eq name k.items) (insert_key key_cmp keys key) ≡ (bytes_eq name key.items || list_any (λ k. bytes_eq name k.items) keys)
among_more name key [] = refl
among_more name key (k ∷ ks) = from (key_cmp key k) refl (among_more name key ks)
  where
    test : Key → Bool
    test x = bytes_eq name x.items

    from : (o : Ordering) → key_cmp key k ≡ o → list_any (λ x. bytes_eq name x.items) (insert_key key_cmp ks key) ≡ (bytes_eq name key.items || list_any (λ x. bytes_eq name x.items) ks) →
        list_any (λ x. bytes_eq name x.items) (match_ordering o (key ∷ k ∷ ks) (k ∷ ks) (k ∷ insert_key key_cmp ks key)) ≡ (bytes_eq name key.items || (bytes_eq name k.items || list_any (λ x. bytes_eq name x.items) ks))
    from Less is h = refl
    from Equal is h =
        let same : bytes_eq key.items k.items ≡ true = sym (is_eq-slice_cmp key.items k.items) ∙ ap is_eq is in
        let equal : key.items ≡ k.items = (bytes_decides key.items k.items).0 same in
        ap (λ (x : List ℕ). bytes_eq name x || list_any (λ y. bytes_eq name y.items) ks) (sym equal) ∙ or_twice (bytes_eq name key.items) (list_any (λ y. bytes_eq name y.items) ks) ∙ ap (λ (x : List ℕ). bytes_eq name key.items || (bytes_eq name x || list_any (λ y. bytes_eq name y.items) ks)) equal
    from Greater is h = ap (λ (b : Bool). bytes_eq name k.items || b) h ∙ or_swap (bytes_eq name k.items) (bytes_eq name key.items) (list_any (λ x. bytes_eq name x.items) ks)

-- whether a key is among the keys, by its characters
pub among_same : (key : Key) (keys : List Key) → list_any (λ k. is_eq (key_cmp key k)) keys ≡ list_any (λ k. bytes_eq key.items k.items) keys
among_same key [] = refl
among_same key (k ∷ ks) = ap₂ ◌||◌ (is_eq-slice_cmp key.items k.items) (among_same key ks)

-- a name is added, or it was there
pub admits : (name : Text) (added : Bool) (seen : List Text) (new : GroupNames) → added ≡ not (list_any (bytes_eq name) seen) → HasNames new (name ∷ seen) → Admits seen (opens (named name)) added new
admits name true seen new is has = (from (list_any (bytes_eq name) seen) is, has)
  where
    from : (b : Bool) → true ≡ not b → b ≡ false
    from true e = absurd cc
    from false e = refl
admits name false seen new is has = λ fresh. let e : false ≡ true = is ∙ ap not fresh in absurd cc
