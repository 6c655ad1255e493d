-- Faults of one leaf after another, and the printed text of kinds.
use Rattle.std.proofs.Common.{◌≡◌, ℕ, ◌+◌, ◌<◌, List, ◌∷◌, ◌++◌, length, map, flat_map, drop, get_or, append_assoc, sym, ◌∙◌, ap, refl, codes}
use Rattle.std.proofs.lemmas.List.{drop_more}
use Rattle.logos_pattern.specs.Leaf.{kind_text, kind_value}
use Rattle.logos_pattern.specs.declared.leaf.VariantKind.{VariantKind}
use Rattle.logos_pattern.specs.declared.leaf.VariantKind.TheVariants.{Unit as UnitVariant, Value, Skip}
use Rattle.logos_parser.specs.Utf8Faults.{kind_name}

-- one element's faults more, on the left
pub adds_more : {A B C : Type 0} (f : B → List C) (g : A → B) (xs : List A) (i : ℕ) (x : A) (old new whole : List C) → i < length xs → x ≡ get_or xs i x → new ≡ old ++ f (g x) →
    old ++ flat_map f (map g (drop i xs)) ≡ whole → new ++ flat_map f (map g (drop (i + 1) xs)) ≡ whole
adds_more {A} f g xs i x old new whole l is e h =
    let d : drop i xs ≡ x ∷ drop (i + 1) xs = drop_more xs i x l ∙ ap (λ (y : A). y ∷ drop (i + 1) xs) (sym is) in
    let h' = rw d at h in
    rw (e, append_assoc) h'

pub kind_names : (kind : VariantKind) → kind_text kind ≡ kind_name (kind_value kind)
kind_names (UnitVariant name) = refl
kind_names (Value name type) = refl
kind_names Skip = refl

-- the text of the fault of a leaf with this source and a kind that prints in this way
abbrev pub text_by : List ℕ → List ℕ → List ℕ
text_by source kind =
    codes "UTF-8 mode is requested, but the pattern " ++ source ++ codes " of variant `" ++ kind
    ++ codes "` can match invalid utf8.\nYou can disable UTF-8 mode with #[logos(utf8 = false)]"
