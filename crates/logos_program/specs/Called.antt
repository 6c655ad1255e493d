-- The program that a path of an executable selects.
use Rattle.std.specs.Prelude.{◌≡◌, ◌≢◌, ◌<◌, ◌-◌, ◌⊎◌, ◌++◌, ℕ, All, slice_index, List, [], ◌∷◌, codes, if◌then◌else◌, nat_eq}
use Rattle.std.specs.List.{starts_with}
use Rattle.logos_program.specs.declared.called.Called.{Called}
use Rattle.logos_program.specs.declared.called.Called.TheVariants.{Logos, LogosCli, LogosShow}

-- The name at the end of a path: the part after its last slash, or the whole path if it has none.
pub record IsLastName (path name : List ℕ) : Type 0 where
  pub front : List ℕ
  pub is : path ≡ front ++ name
  pub ends : (front ≡ []) ⊎ ((folder : List ℕ) × (front ≡ folder ++ 47 ∷ []))
  pub last : All (λ byte. byte ≢ 47) name

-- An offset of a path is its beginning, or the byte before it is a slash.
abbrev pub IsNameStart : List ℕ → ℕ → Type 0
IsNameStart path offset = (offset ≡ 0) ⊎ ((0 < offset) × (slice_index path (offset - 1) ≡ 47))

-- The program for the name of an executable, by the beginning of the name.
abbrev pub program_of : List ℕ → Called
program_of name =
    if starts_with nat_eq name (codes "logos_cli") then LogosCli else (if starts_with nat_eq name (codes "logos_show") then LogosShow else Logos)
