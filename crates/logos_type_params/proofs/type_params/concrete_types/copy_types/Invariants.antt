use Rattle.std.proofs.Common.{◌++◌, [], map, drop}
use Rattle.logos_type.specs.TypeTrees.{type_tree}
use Rattle.logos_type_params.specs.TypeParams.{named_of, given_of}
use Rattle.logos_type_params.specs.Generics.{concrete_types, missing_types}
use Rattle.logos_type_params.proofs.SettledLemmas.{Copying}
use Rattle.logos_type_params.proofs.type_params.concrete_types.copy_types.Given as goal

abbrev pub invariant-loop-name : goal.invariant-loop-name
invariant-loop-name l =
    Copying (map given_of l.types.entries.items) (concrete_types (map given_of l.types.entries.items) [] (map named_of l.names)) (l.fn.errors ++ missing_types (map given_of l.types.entries.items) [] (map named_of l.names))
    (map named_of (drop l.name-index l.names)) l.front.keys (map type_tree l.copies.items) l.errors
