use Rattle.std.proofs.Common.{◌≡◌, ◌≤◌, ◌+◌, map, drop}
use Rattle.logos_byte_class.specs.Bytes.{comparison_of}
use Rattle.logos_generator.specs.Nodes.{cost}
use Rattle.logos_generator.proofs.generator.fork.are_cheap.Given as goal

abbrev pub invariant-loop-comparison : goal.invariant-loop-comparison
invariant-loop-comparison l = (l.left ≤ 2) × (cost (map comparison_of l.comparisons) + l.left ≡ cost (map comparison_of (drop l.comparison-index l.comparisons)) + 2)
