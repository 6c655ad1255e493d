use Rattle.std.proofs.Common.{◌≡◌, ◌++◌, map, drop}
use Rattle.logos_code.specs.CodeView.{use_of}
use Rattle.logos_tables.specs.Steps.{skip_number}
use Rattle.logos_tables.proofs.marks.skips_of.Given as goal

abbrev pub invariant-loop-leaf : goal.invariant-loop-leaf
invariant-loop-leaf l = l.skips.items ++ map (λ leaf. skip_number (use_of leaf)) (drop l.leaf-index l.leaves) ≡ map (λ leaf. skip_number (use_of leaf)) l.leaves
