-- The rendered text of faults: a function that does not compile and whose compile errors are the
-- messages of the faults.
use Rattle.std.specs.Prelude.{ℕ, List, [], ◌∷◌, ◌++◌, codes, Option, Some, None}
use Rattle.std.specs.List.{flat_map}
use Rattle.logos_token.specs.EscapedTexts.{escaped}
use Rattle.logos_token.specs.Faults.{Fault}

-- The `compile_error!` that reports the message of a fault.
abbrev pub rendered_fault : Fault → List ℕ
rendered_fault fault = (codes "{ compile_error ! ( \"" ++ escaped fault.message) ++ codes "\" ) } "

-- The text for all faults, if there are any.
abbrev pub rendered : List Fault → Option (List ℕ)
rendered [] = None
rendered (fault ∷ rest) = Some ((codes "fn _logos_derive_compile_errors ( ) { " ++ flat_map rendered_fault (fault ∷ rest)) ++ codes "} unimplemented ! ( )")
