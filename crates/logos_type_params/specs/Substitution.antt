-- The replacement of declared parameters in a type, and the setting of its lifetimes. `levels` is
-- the number of types that can be nested.
use Rattle.std.specs.Prelude.{◌≡◌, ℕ, ◌-◌, ◌<◌, List, [], ◌∷◌, Bool, true, false, if◌then◌else◌, Some, codes}
use Rattle.std.specs.Str.{bytes_eq}
use denote.Ref.{Bor}
use Rattle.logos_type_params.specs.declared.substitution.TypeParam.{TypeParam}
use Rattle.logos_type.specs.Parts.{Sign, reference, lifetime, Tree, sign, name, whole, still, Trees, none, also, tree_of}
use Rattle.logos_type.specs.Depth.{some_exceed}

-- The lifetime `'s`, without the `'`.
abbrev pub source_lifetime : List ℕ
source_lifetime = codes "s"

-- A token with its lifetime set, if it is a reference or a lifetime among the angle arguments of a
-- path that is a type.
abbrev pub set_sign : Sign → Sign
set_sign (reference l) = reference (Some source_lifetime)
set_sign (lifetime text) = lifetime source_lifetime
set_sign s = s

-- A name and a type given to it.
pub record ParamValue : Type 0 where
  pub name : List ℕ
  pub type : Tree

-- A name and the type given to it, as a value.
abbrev pub param_value : Bor (List ℕ) × TypeParam → ParamValue
param_value entry = record { name = entry.0.now; type = tree_of entry.1.part }

-- The given types, and the names of the parameters that contain themselves.
pub record Params : Type 0 where
  pub types : List ParamValue
  pub held : List (List ℕ)

-- The replacement of a name.
pub data Given : Type 0 where
  nothing : Given
  a_name : (text : List ℕ) → Given
  a_type : (parts : Trees) → Given

-- The replacement of a parameter with this type.
abbrev pub given_type : Tree → Given
given_type (sign s) = nothing
given_type (name text) = a_name text
given_type (whole parts) = a_type parts
given_type (still parts) = nothing

-- The replacement of a name by the first type given to it, if there is one.
abbrev pub given_first : List ParamValue → List ℕ → Given
given_first [] text = nothing
given_first (p ∷ ps) text = if bytes_eq p.name text then given_type p.type else given_first ps text

-- Whether the list contains this text.
abbrev pub is_among : List (List ℕ) → List ℕ → Bool
is_among [] text = false
is_among (t ∷ ts) text = if bytes_eq t text then true else is_among ts text

-- The replacement of a name. A parameter that contains itself is not replaced.
abbrev pub given : Params → List ℕ → Given
given params text = if is_among params.held text then nothing else given_first params.types text

mutual
  -- The first part becomes the second one. Parts that are never replaced are only checked for their
  -- depth. The parts of a type that replaces a name are replaced in turn, but the type is unchanged
  -- if it is a name itself.
  pub data After : Params → ℕ → Tree → Tree → Type 0 where
    token : {params : Params} {levels : ℕ} {s : Sign} → After params levels (sign s) (sign (set_sign s))
    stays : {params : Params} {levels : ℕ} {text : List ℕ} → 0 < levels → given params text ≡ nothing → After params levels (name text) (name text)
    named : {params : Params} {levels : ℕ} {text other : List ℕ} → 0 < levels → given params text ≡ a_name other → After params levels (name text) (name other)
    put : {params : Params} {levels : ℕ} {text : List ℕ} {parts others : Trees} →
        0 < levels → given params text ≡ a_type parts → AllAfter params (levels - 1) parts others → After params levels (name text) (whole others)
    inside : {params : Params} {levels : ℕ} {parts others : Trees} → 0 < levels → AllAfter params (levels - 1) parts others → After params levels (whole parts) (whole others)
    stays_still : {params : Params} {levels : ℕ} {parts : Trees} → some_exceed levels parts ≡ false → After params levels (still parts) (still parts)

  -- Each part becomes the part at the same index.
  pub data AllAfter : Params → ℕ → Trees → Trees → Type 0 where
    none_after : {params : Params} {levels : ℕ} → AllAfter params levels none none
    also_after : {params : Params} {levels : ℕ} {part other : Tree} {parts others : Trees} →
        After params levels part other → AllAfter params levels parts others → AllAfter params levels (also part parts) (also other others)

mutual
  -- The result for a part is deeper than `levels`.
  pub data Passes : Params → ℕ → Tree → Type 0 where
    name_here : {params : Params} {levels : ℕ} {text : List ℕ} → levels ≡ 0 → Passes params levels (name text)
    type_here : {params : Params} {levels : ℕ} {parts : Trees} → levels ≡ 0 → Passes params levels (whole parts)
    put_inside : {params : Params} {levels : ℕ} {text : List ℕ} {parts : Trees} →
        0 < levels → given params text ≡ a_type parts → SomePasses params (levels - 1) parts → Passes params levels (name text)
    type_inside : {params : Params} {levels : ℕ} {parts : Trees} → 0 < levels → SomePasses params (levels - 1) parts → Passes params levels (whole parts)
    still_here : {params : Params} {levels : ℕ} {parts : Trees} → some_exceed levels parts ≡ true → Passes params levels (still parts)

  pub data SomePasses : Params → ℕ → Trees → Type 0 where
    first_passes : {params : Params} {levels : ℕ} {part : Tree} {parts : Trees} → Passes params levels part → SomePasses params levels (also part parts)
    later_passes : {params : Params} {levels : ℕ} {part : Tree} {parts : Trees} → SomePasses params levels parts → SomePasses params levels (also part parts)
