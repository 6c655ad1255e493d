-- The replacement of parameters in a written type, and the names that are not replaced in it.
use Rattle.std.specs.Prelude.{◌≡◌, ◌⊎◌, ℕ, List, [], ◌∷◌, ◌++◌, map}
use Rattle.logos_lexeme.specs.declared.lexeme.Span.{Span}
use Rattle.logos_token.specs.Faults.{Fault}
use Rattle.logos_type.specs.Parts.{Tree}
use Rattle.logos_type_reader.specs.TypeExprs.{type_nesting}
use Rattle.logos_type_params.specs.declared.type_params.TypeParams.{TypeParams}
use Rattle.logos_type_params.specs.Substitution.{ParamValue, param_value, Params, After, Passes}
use Rattle.logos_type_params.specs.SelfReference.{Leads, Has}
use Rattle.logos_type_params.specs.TypeParams.{limit_type_nesting}

-- The given types.
abbrev pub types_of : TypeParams → List ParamValue
types_of params = map param_value params.types.entries.items

-- The given types, and the names that are not replaced.
abbrev pub params_with : TypeParams → List (List ℕ) → Params
params_with params held = record { types = types_of params; held = held }

-- The names to which a type is given.
abbrev pub given_names : List ParamValue → List (List ℕ)
given_names = map (λ (p : ParamValue). p.name)

-- A name is added if a chain of types leads from it back to it.
pub data IsNeeded (params : List ParamValue) (text : List ℕ) (held held' : List (List ℕ)) : Type 0 where
  is_held : Leads params text text → ((other : List ℕ) → Has held' other → Has held other ⊎ (text ≡ other)) → ((other : List ℕ) → Has held other → Has held' other) → Has held' text →
      IsNeeded params text held held'
  is_free : (Leads params text text → ⊥) → held' ≡ held → IsNeeded params text held held'

-- `held` consists of the names that have a type and from which a chain leads back to them.
pub record AreHeld (params : List ParamValue) (held : List (List ℕ)) : Type 0 where
  pub have_types : (text : List ℕ) → Has held text → Has (given_names params) text
  pub lead_back : (text : List ℕ) → Has held text → Leads params text text
  pub all : (text : List ℕ) → Has (given_names params) text → Leads params text text → Has held text

-- A written type has its declared parameters replaced and its lifetimes set. If the result exceeds
-- the limit, a fault is reported and the type is unchanged.
pub data GetsType (params : Params) (written : Tree) (at : Span) (old new : List Fault) (got : Tree) : Type 0 where
  replaced : After params type_nesting written got → new ≡ old → GetsType params written at old new got
  as_written : Passes params type_nesting written → got ≡ written → new ≡ old ++ limit_type_nesting at ∷ [] → GetsType params written at old new got
