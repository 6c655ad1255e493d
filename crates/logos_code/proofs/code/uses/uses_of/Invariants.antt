use Rattle.std.proofs.Common.{◌≡◌, ◌++◌, map, drop}
use Rattle.logos_code.specs.CodeView.{use_of}
use Rattle.logos_code.specs.Uses.{use_by}
use Rattle.logos_code.proofs.code.uses.uses_of.Given as goal

-- the leaves that are left complete the uses
abbrev pub invariant-loop-leaf : goal.invariant-loop-leaf
invariant-loop-leaf l = map use_by l.uses.items ++ map use_of (drop l.leaf-index l.parts.leaves.items) ≡ map use_of l.parts.leaves.items
