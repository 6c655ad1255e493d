-- Declared names that are checked one by one.
use Rattle.std.specs.Prelude.{◌≡◌, ℕ, Bool, List, [], ◌∷◌, ◌++◌, Option}
use denote.Ref.{Bor}
use Rattle.logos_token.specs.Faults.{Fault}
use Rattle.logos_type.specs.Parts.{Tree}
use Rattle.logos_type_params.specs.Substitution.{ParamValue}
use Rattle.logos_type_params.specs.SelfFaults.{IsChecked}
use Rattle.logos_type_params.specs.TypeParams.{Named, Given}
use Rattle.logos_type_params.specs.Generics.{concrete_type}
use Rattle.logos_type_params.specs.WrittenTypes.{IsNeeded}
use Rattle.logos_type_params.specs.inside.Fronts.{AreInFront}
use Rattle.logos_type_params.specs.inside.Chains.{AreMarked}

-- A name is checked by the flags of the types that lead back to themselves, unless it is in
-- `front`, and is in `front` afterwards.
pub record ChecksName (params : List ParamValue) (marks : List Bool) (keys : List (Bor (List ℕ))) (named : Named) (before : List Fault) (keys' : List (Bor (List ℕ))) (after : List Fault) : Type 0 where
  pub checked : AreMarked params marks → (front : List Named) → AreInFront front keys → IsChecked params front named before after
  pub fronts : (front : List Named) → AreInFront front keys → AreInFront (front ++ named ∷ []) keys'

-- A name is added if its flag is set.
abbrev pub NeedsName : List ParamValue → List Bool → List ℕ → List (List ℕ) → List (List ℕ) → Type 0
NeedsName params marks text held held' = AreMarked params marks → IsNeeded params text held held'

-- The type of a name is copied, unless the name is in `front`, and the name is in `front`
-- afterwards.
pub record CopiesName (types : List Given) (keys : List (Bor (List ℕ))) (named : Named) (copy : Option Tree) (keys' : List (Bor (List ℕ))) : Type 0 where
  pub copied : (front : List Named) → AreInFront front keys → copy ≡ concrete_type types front named.text
  pub fronts : (front : List Named) → AreInFront front keys → AreInFront (front ++ named ∷ []) keys'
