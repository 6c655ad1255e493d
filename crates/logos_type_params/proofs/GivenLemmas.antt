-- Types that are found by the names that they are given to.
use Rattle.std.proofs.Common.{◌≡◌, List, [], ◌∷◌, map, Bool, true, false, Option, Some, None, Bor, refl, ap, ◌∙◌, if◌then◌else◌}
use Rattle.std.specs.Str.{bytes_eq}
use Rattle.std.specs.List.{list_any}
use Rattle.std.specs.Map.{lookup}
use Rattle.logos_type.specs.Parts.{tree_of}
use Rattle.logos_type_params.specs.declared.substitution.TypeParam.{TypeParam}
use Rattle.logos_type_params.specs.Substitution.{nothing, given_type, given_first, is_among, param_value}
use Rattle.logos_type_params.specs.SelfReference.{texts}
use Rattle.logos_type_params.specs.TypeParams.{given_of, former, given_more, Given as Typed}
use Rattle.logos_type_params.specs.Generics.{type_of}
use Rattle.logos_type_params.specs.inside.Slots.{put_in}
use Rattle.logos_type_params.proofs.ChainLemmas.{Text, Entries, eq_sym}

pub among_keys : (t : Text) (keys : List (Bor Text)) → list_any (λ (k : Bor Text). bytes_eq t k.now) keys ≡ is_among (texts keys) t
among_keys t [] = refl
among_keys t (k ∷ keys) = go (bytes_eq t k.now) refl (among_keys t keys)
  where
    go : (b : Bool) → bytes_eq t k.now ≡ b → list_any (λ (x : Bor Text). bytes_eq t x.now) keys ≡ is_among (texts keys) t → list_any (λ (x : Bor Text). bytes_eq t x.now) (k ∷ keys) ≡ is_among (texts (k ∷ keys)) t
    go true q rest = rw (eq_sym k.now t, q) refl
    go false q rest = rw (eq_sym k.now t, q) rest

-- the type of a name, if an entry is found and its property is used
module _ {X : Type 0} (none : X) (some : TypeParam → X) (meant : Entries → Text → X) (empty : (t : Text) → meant [] t ≡ none)
    (front : (e : Bor Text × TypeParam) (es : Entries) (t : Text) → meant (e ∷ es) t ≡ (if bytes_eq e.0.now t then some e.1 else meant es t)) where
  abbrev chosen : Option TypeParam → X
  chosen None = none
  chosen (Some p) = some p

  pub meant_by : (t : Text) (es : Entries) → meant es t ≡ chosen (lookup (λ (k : Bor Text). bytes_eq t k.now) es)
  meant_by t [] = empty t
  meant_by t (e ∷ es) = go (bytes_eq t e.0.now) refl (meant_by t es)
    where
      go : (b : Bool) → bytes_eq t e.0.now ≡ b → meant es t ≡ chosen (lookup (λ (k : Bor Text). bytes_eq t k.now) es) → meant (e ∷ es) t ≡ chosen (lookup (λ (k : Bor Text). bytes_eq t k.now) (e ∷ es))
      go true q rest = front e es t ∙ rw (eq_sym e.0.now t, q) refl
      go false q rest = front e es t ∙ rw (eq_sym e.0.now t, q) rest

  pub meant_found : (t : Text) (es : Entries) (p : TypeParam) → lookup (λ (k : Bor Text). bytes_eq t k.now) es ≡ Some p → meant es t ≡ some p
  meant_found t es p h = meant_by t es ∙ ap chosen h

  pub meant_none : (t : Text) (es : Entries) → lookup (λ (k : Bor Text). bytes_eq t k.now) es ≡ None → meant es t ≡ none
  meant_none t es h = meant_by t es ∙ ap chosen h

pub given_found : (t : Text) (es : Entries) (p : TypeParam) → lookup (λ (k : Bor Text). bytes_eq t k.now) es ≡ Some p → given_first (map param_value es) t ≡ given_type (tree_of p.part)
given_found = meant_found nothing (λ p. given_type (tree_of p.part)) (λ es t. given_first (map param_value es) t) (λ t. refl) (λ e es t. refl)

pub given_none : (t : Text) (es : Entries) → lookup (λ (k : Bor Text). bytes_eq t k.now) es ≡ None → given_first (map param_value es) t ≡ nothing
given_none = meant_none nothing (λ p. given_type (tree_of p.part)) (λ es t. given_first (map param_value es) t) (λ t. refl) (λ e es t. refl)

pub type_found : (t : Text) (es : Entries) (p : TypeParam) → lookup (λ (k : Bor Text). bytes_eq t k.now) es ≡ Some p → type_of (map given_of es) t ≡ Some (tree_of p.part)
type_found = meant_found None (λ p. Some (tree_of p.part)) (λ es t. type_of (map given_of es) t) (λ t. refl) (λ e es t. refl)

pub type_none : (t : Text) (es : Entries) → lookup (λ (k : Bor Text). bytes_eq t k.now) es ≡ None → type_of (map given_of es) t ≡ None
type_none = meant_none None (λ p. Some (tree_of p.part)) (λ es t. type_of (map given_of es) t) (λ t. refl) (λ e es t. refl)

pub former_found : (t : Text) (es : Entries) (p : TypeParam) → lookup (λ (k : Bor Text). bytes_eq t k.now) es ≡ Some p → former (map given_of es) t ≡ Some p.span
former_found = meant_found None (λ p. Some p.span) (λ es t. former (map given_of es) t) (λ t. refl) (λ e es t. refl)

pub former_none : (t : Text) (es : Entries) → lookup (λ (k : Bor Text). bytes_eq t k.now) es ≡ None → former (map given_of es) t ≡ None
former_none = meant_none None (λ p. Some p.span) (λ es t. former (map given_of es) t) (λ t. refl) (λ e es t. refl)

-- one type more
pub given_put : (entry : Bor Text × TypeParam) (es : Entries) → map given_of (put_in entry es) ≡ given_more (given_of entry) (map given_of es)
given_put entry [] = refl
given_put entry (e ∷ es) = go (bytes_eq entry.0.now e.0.now) refl (given_put entry es)
  where
    go : (b : Bool) → bytes_eq entry.0.now e.0.now ≡ b → map given_of (put_in entry es) ≡ given_more (given_of entry) (map given_of es) → map given_of (put_in entry (e ∷ es)) ≡ given_more (given_of entry) (map given_of (e ∷ es))
    go true q rest = rw q refl
    go false q rest = rw q (ap (λ (l : List Typed). given_of e ∷ l) rest)
