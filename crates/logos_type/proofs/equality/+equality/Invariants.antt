use Rattle.std.proofs.Common.{◌≡◌, ◌↔◌, map, drop}
use Rattle.logos_type.specs.Parts.{tree_of}
use Rattle.logos_type.proofs.equality.+equality.Given as goal

-- the lists are the same exactly where the rest of them is
abbrev pub invariant-are_same_parts-loop-index : goal.invariant-are_same_parts-loop-index
invariant-are_same_parts-loop-index l = (map tree_of l.parts ≡ map tree_of l.others) ↔ (map tree_of (drop l.index l.parts) ≡ map tree_of (drop l.index l.others))
