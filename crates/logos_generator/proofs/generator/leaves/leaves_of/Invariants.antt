use Rattle.std.proofs.Common.{◌≡◌, ◌++◌, map, drop}
use Rattle.logos_generator.specs.GeneratorValue.{code_leaf_value, leaf_value}
use Rattle.logos_generator.proofs.generator.leaves.leaves_of.Given as goal

-- the leaves that are left complete the values
abbrev pub invariant-loop-leaf : goal.invariant-loop-leaf
invariant-loop-leaf l = map code_leaf_value l.made.items ++ map leaf_value (drop l.leaf-index l.leaves) ≡ map leaf_value l.leaves
