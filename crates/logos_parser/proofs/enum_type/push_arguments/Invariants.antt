use Rattle.std.proofs.Common.{◌≡◌, ◌++◌, map}
use Rattle.logos_type.specs.Parts.{tree_of}
use Rattle.logos_type.specs.TypeTrees.{type_tree}
use Rattle.logos_parser.specs.EnumTypes.{arguments}
use Rattle.logos_parser.proofs.enum_type.push_arguments.Given as goal

-- the added text and the rest to add
abbrev pub invariant-loop-argument : goal.invariant-loop-argument
invariant-loop-argument l =
    map tree_of l.parts.items ++ arguments l.is_first (map type_tree l.argument-iterator.rest.items)
    ≡ map tree_of l.fn.parts.items ++ arguments l.fn.is_first (map type_tree l.fn.types.items)
