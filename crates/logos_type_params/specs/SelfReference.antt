-- Parameters whose types contain them.
use Rattle.std.specs.Prelude.{◌≡◌, ℕ, ◌||◌, ◌⊎◌, map, List, [], ◌∷◌, Bool, true, false, if◌then◌else◌}
use Rattle.std.specs.Str.{bytes_eq}
use denote.Ref.{Bor}
use Rattle.logos_type.specs.Parts.{Tree, sign, name, whole, still, Trees, none, also}
pub use Rattle.logos_type_params.specs.Substitution.{param_value}
use Rattle.logos_type_params.specs.Substitution.{ParamValue}

abbrev mutual
  -- Whether a type is this name or has it among its parts.
  pub names : Tree → List ℕ → Bool
  names (sign s) text = false
  names (name other) text = bytes_eq other text
  names (whole parts) text = some_names parts text
  names (still parts) text = false

  pub some_names : Trees → List ℕ → Bool
  some_names none text = false
  some_names (also part parts) text = names part text || some_names parts text

-- The first type given to the first name has the second name among its parts.
abbrev pub holds : List ParamValue → List ℕ → List ℕ → Bool
holds [] text other = false
holds (p ∷ ps) text other = if bytes_eq p.name text then names p.type other else holds ps text other

-- A chain of types that name one another leads from the first name to the second one.
pub data Leads (params : List ParamValue) : List ℕ → List ℕ → Type 0 where
  one : {from to : List ℕ} → holds params from to ≡ true → Leads params from to
  on : {from over to : List ℕ} → holds params from over ≡ true → Leads params over to → Leads params from to

-- The list contains the text.
abbrev pub Has : List (List ℕ) → List ℕ → Type 0
Has [] text = ⊥
Has (t ∷ ts) text = (t ≡ text) ⊎ Has ts text

-- The texts to which references point.
abbrev pub texts : List (Bor (List ℕ)) → List (List ℕ)
texts = map (λ b. b.now)
