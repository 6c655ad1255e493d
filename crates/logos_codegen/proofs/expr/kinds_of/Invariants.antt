use Rattle.std.proofs.Common.{◌≡◌, ◌++◌, map, drop}
use Rattle.logos_pattern.specs.Leaf.{kind_value}
use Rattle.logos_codegen.specs.Tokenizing.{kind_given}
use Rattle.logos_codegen.proofs.expr.kinds_of.Given as goal

-- the leaves that are left complete the kinds
abbrev pub invariant-loop-leaf : goal.invariant-loop-leaf
invariant-loop-leaf l = l.kinds.items ++ map (λ leaf. kind_given (kind_value leaf.kind)) (drop l.leaf-index l.leaves) ≡ map (λ leaf. kind_given (kind_value leaf.kind)) l.leaves
