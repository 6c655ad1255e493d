-- The replacement of a name, in terms of the code.
use Rattle.std.specs.Prelude.{map}
use Rattle.logos_type_params.specs.declared.substitution.GivenType.{GivenType as GivenView}
use Rattle.logos_type_params.specs.declared.substitution.GivenType.TheVariants.{Nothing, Name, Parts}
use Rattle.logos_type.specs.Parts.{trees, tree_of}
use Rattle.logos_type_params.specs.declared.substitution.Replacing.{Replacing}
use Rattle.logos_type_params.specs.SelfReference.{texts}
use Rattle.logos_type_params.specs.Substitution.{Given, nothing, a_name, a_type, Params, param_value}

-- The replacement that a value represents.
abbrev pub given_of : GivenView → Given
given_of Nothing = nothing
given_of (Name text) = a_name text.now
given_of (Parts parts) = a_type (trees (map tree_of parts.now))

-- The given types and the names that contain themselves, in terms of the code.
abbrev pub params_of : Replacing → Params
params_of replacing = record { types = map param_value replacing.types.now.entries.items; held = texts replacing.held.now.keys }
