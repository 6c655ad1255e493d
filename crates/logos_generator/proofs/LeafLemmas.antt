-- The leaves of a code, one after another.
use Rattle.std.proofs.Common.{◌≡◌, ℕ, ◌+◌, ◌<◌, List, [], ◌∷◌, ◌++◌, length, drop, map, get_or, ap, sym, refl, ◌∙◌, append_assoc, Option, None, Some, option_map, is_some, Bool, true, false}
use Rattle.std.proofs.lemmas.List.{drop_more, map-append}
use Rattle.logos_pattern.specs.Leaf.{is_skip, callback_value, KindValue, plain, holding, skipped, kind_value}
use Rattle.logos_pattern.specs.declared.leaf.Callback.{Callback}
use Rattle.logos_pattern.specs.declared.leaf.Leaf.{Leaf}
use Rattle.logos_pattern.specs.declared.leaf.VariantKind.{VariantKind}
use Rattle.logos_pattern.specs.declared.leaf.VariantKind.TheVariants.{Unit as UnitVariant, Value, Skip}
use Rattle.logos_automaton.specs.Munch.{Use}
use Rattle.logos_code.specs.CodeView.{use_of}
use Rattle.logos_generator.specs.GeneratorValue.{LeafValue, leaf_value, code_leaf_value}
use Rattle.logos_generator.specs.StateView.{leaf_use}
use Rattle.logos_code.specs.declared.code.CodeLeaf.{CodeLeaf}

-- one leaf more
pub leaves_turn : (leaves : List Leaf) (i : ℕ) (d : Leaf) (old new : List CodeLeaf) (x : CodeLeaf) → i < length leaves → new ≡ old ++ x ∷ [] →
    code_leaf_value x ≡ leaf_value (get_or leaves i d) → map code_leaf_value old ++ map leaf_value (drop i leaves) ≡ map leaf_value leaves →
    map code_leaf_value new ++ map leaf_value (drop (i + 1) leaves) ≡ map leaf_value leaves
leaves_turn leaves i d old new x lt is same before =
    let split : map code_leaf_value (old ++ x ∷ []) ++ map leaf_value (drop (i + 1) leaves) ≡ map code_leaf_value old ++ (code_leaf_value x ∷ map leaf_value (drop (i + 1) leaves)) =
    ap (λ l. l ++ map leaf_value (drop (i + 1) leaves)) (map-append code_leaf_value old (x ∷ [])) ∙ append_assoc (map code_leaf_value old) (code_leaf_value x ∷ []) (map leaf_value (drop (i + 1) leaves)) in
    rw is (split ∙ ap (λ u. map code_leaf_value old ++ (u ∷ map leaf_value (drop (i + 1) leaves))) same ∙ (rw (drop_more leaves i d lt) at before))

-- matches are left out
abbrev skips_by : KindValue → Bool
skips_by (plain name) = false
skips_by (holding name type) = false
skips_by skipped = true

skips_alike : (kind : VariantKind) → skips_by (kind_value kind) ≡ is_skip kind
skips_alike (UnitVariant name) = refl
skips_alike (Value name type) = refl
skips_alike Skip = refl

-- the meaning of a leaf's value for its use
abbrev use_by : LeafValue → Use
use_by leaf = record { skips = skips_by leaf.kind; calls_back = is_some leaf.callback }

calls_back_alike : (callback : Option Callback) → is_some (option_map callback_value callback) ≡ is_some callback
calls_back_alike None = refl
calls_back_alike (Some callback) = refl

uses_made : (made : List CodeLeaf) → map use_by (map code_leaf_value made) ≡ map use_of made
uses_made [] = refl
uses_made (x ∷ xs) = rw (skips_alike x.kind, calls_back_alike x.callback, uses_made xs) refl

uses_given : (leaves : List Leaf) → map use_by (map leaf_value leaves) ≡ map leaf_use leaves
uses_given [] = refl
uses_given (x ∷ xs) = rw (skips_alike x.kind, calls_back_alike x.callback, uses_given xs) refl

-- leaves of the same values are used alike
pub uses_alike : (made : List CodeLeaf) (leaves : List Leaf) → map code_leaf_value made ≡ map leaf_value leaves → map use_of made ≡ map leaf_use leaves
uses_alike made leaves same = sym (uses_made made) ∙ ap (map use_by) same ∙ uses_given leaves
