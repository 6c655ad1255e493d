-- The types given to the declared parameters, and the generic arguments that follow the enum's
-- name.
use Rattle.std.specs.Prelude.{ℕ, List, [], ◌∷◌, ◌++◌, map, Bool, true, false, if◌then◌else◌, Option, Some, None, codes}
use Rattle.std.specs.Str.{bytes_eq}
use Rattle.logos_token.specs.declared.error.fault_code.FaultCode.TheVariants.{NoConcreteType}
use Rattle.logos_token.specs.Faults.{Fault}
use Rattle.logos_type.specs.Parts.{Tree, sign, name, whole, still}
use Rattle.logos_type.specs.TypeTrees.{type_tree}
use Rattle.logos_type_params.specs.declared.type_params.concrete_types.Generics.{Generics}
use Rattle.logos_type_params.specs.TypeParams.{Named, Given, Value, about, is_declared}

-- The type given to a name.
abbrev pub type_of : List Given → List ℕ → Option Tree
type_of [] text = None
type_of (g ∷ types) text = if bytes_eq g.name.text text then Some g.type else type_of types text

-- The type given to the parameter that a path names.
abbrev pub type_at : List Given → Tree → Option Tree
type_at types (sign s) = None
type_at types (name text) = type_of types text
type_at types (whole parts) = None
type_at types (still parts) = None

-- Generic arguments: `'s` or no lifetime, and types in order.
pub record GenericsValue : Type 0 where
  pub lifetime : Bool
  pub types : List Tree

-- The generic arguments as a value.
abbrev pub generics_of : Generics → GenericsValue
generics_of generics = record { lifetime = generics.lifetime; types = map type_tree generics.types.items }

-- The type of a declared name, unless it is one of the earlier names `front`.
abbrev pub concrete_type : List Given → List Named → List ℕ → Option Tree
concrete_type types front text = if is_declared front text then None else type_of types text

-- A type, if there is one, before others.
abbrev pub and_type : Option Tree → List Tree → List Tree
and_type None others = others
and_type (Some tree) others = tree ∷ others

-- The fault of a declared name without a type.
abbrev pub no_concrete_type : Named → Fault
no_concrete_type named =
    about NoConcreteType (codes "Generic type parameter without a concrete type\n\nDefine a concrete type Logos can use: #[logos(type ") named (codes " = Type)]")

-- The fault of a name before others, if it has no type.
abbrev pub and_fault : Option Tree → Named → List Fault → List Fault
and_fault None named others = no_concrete_type named ∷ others
and_fault (Some tree) named others = others

-- The types of declared names after those in `front`, in order of declaration.
abbrev pub concrete_types : List Given → List Named → List Named → List Tree
concrete_types types front [] = []
concrete_types types front (n ∷ names) = and_type (concrete_type types front n.text) (concrete_types types (front ++ n ∷ []) names)

-- The faults of the declared names without a type, in order of declaration.
abbrev pub missing_types : List Given → List Named → List Named → List Fault
missing_types types front [] = []
missing_types types front (n ∷ names) = and_fault (concrete_type types front n.text) n (missing_types types (front ++ n ∷ []) names)

-- There are no generic arguments if there is neither a lifetime nor a type.
abbrev pub between_brackets : Bool → List Tree → Option GenericsValue
between_brackets true types = Some (record { lifetime = true; types = types })
between_brackets false [] = None
between_brackets false (t ∷ types) = Some (record { lifetime = false; types = t ∷ types })

-- The lifetime if one is declared, and the types of all declared names.
abbrev pub generics : Value → Option GenericsValue
generics value = between_brackets value.lifetime (concrete_types value.types [] value.names)
