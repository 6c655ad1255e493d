-- Types by their indices, and the types to which each leads.
use Rattle.std.specs.Prelude.{◌≡◌, ℕ, zero, suc, ◌⊎◌, List, [], ◌∷◌, Bool, true, false, Contains, slice_index_or, IsTrue, ◌↔◌, ⊤}
use Rattle.std.specs.Str.{bytes_eq}
use Rattle.logos_type_params.specs.Substitution.{ParamValue}
use Rattle.logos_type_params.specs.SelfReference.{names, Leads}

-- The first type given to this name is at this index.
abbrev pub OccursAt : List ParamValue → List ℕ → ℕ → Type 0
OccursAt [] text at = ⊥
OccursAt (p ∷ ps) text zero = bytes_eq p.name text ≡ true
OccursAt (p ∷ ps) text (suc at) = (bytes_eq p.name text ≡ false) × OccursAt ps text at

-- The type at this index is given to one of these names.
abbrev pub IsHeldAt : List ParamValue → (List ℕ → Bool) → ℕ → Type 0
IsHeldAt params held at = (text : List ℕ) × (held text ≡ true) × OccursAt params text at

-- Exactly the indices of the types given to these names are added.
pub record Reaches (params : List ParamValue) (held : List ℕ → Bool) (old new : List ℕ) : Type 0 where
  pub each : (at : ℕ) → Contains new at ↔ (Contains old at ⊎ IsHeldAt params held at)

-- Each list has the indices of the types to which its own type leads.
abbrev pub AreReached : List ParamValue → List ParamValue → List (List ℕ) → Type 0
AreReached params [] [] = ⊤
AreReached params [] (l ∷ lists) = ⊥
AreReached params (p ∷ ps) [] = ⊥
AreReached params (p ∷ ps) (l ∷ lists) = Reaches params (names p.type) [] l × AreReached params ps lists

-- The flag at each index is whether a chain leads from the name of its type back to it.
abbrev pub AreMarked : List ParamValue → List Bool → Type 0
AreMarked params marks = (text : List ℕ) (at : ℕ) → OccursAt params text at →
    IsTrue (slice_index_or marks at false) ↔ Leads params text text
