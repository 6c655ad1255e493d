-- The type of an enum: its name, and the generic arguments that follow it.
use Rattle.std.specs.Prelude.{ℕ, Bool, true, false, not, List, [], ◌∷◌, ◌++◌, codes, Option, Some, None}
use Rattle.logos_type.specs.Parts.{Tree, sign, name, whole, trees, word, mark, lifetime}
use Rattle.logos_type_params.specs.Generics.{GenericsValue}

-- The comma between arguments, as a part of a type.
abbrev pub comma : Tree
comma = sign (mark 44)

-- The `<` before arguments, as a part of a type.
abbrev pub less : Tree
less = sign (mark 60)

-- The `>` after arguments, as a part of a type.
abbrev pub greater : Tree
greater = sign (mark 62)

-- An argument, with a comma before it unless it is the first one.
abbrev pub argument : Bool → Tree → List Tree
argument true tree = tree ∷ []
argument false tree = comma ∷ tree ∷ []

-- Arguments, with a comma before each unless it is the first argument.
abbrev pub arguments : Bool → List Tree → List Tree
arguments is_first [] = []
arguments is_first (tree ∷ rest) = argument is_first tree ++ arguments false rest

-- The lifetime `'s`, if there is one.
abbrev pub lifetime_argument : Bool → List Tree
lifetime_argument true = sign (lifetime (codes "s")) ∷ []
lifetime_argument false = []

-- The parts between the angle brackets.
abbrev pub between : GenericsValue → List Tree
between g = lifetime_argument g.lifetime ++ arguments (not g.lifetime) g.types

-- The type with this name and these generic arguments.
abbrev pub bracketed : List ℕ → GenericsValue → Tree
bracketed text g = whole (trees (sign (word text) ∷ less ∷ between g ++ greater ∷ []))

-- The type with this name and these generic arguments.
abbrev pub enum_type : List ℕ → Option GenericsValue → Tree
enum_type text None = name text
enum_type text (Some g) = bracketed text g
