use Rattle.std.proofs.Common.{◌≡◌, map}
use Rattle.logos_hir.specs.Hir.{tree_of}
use Rattle.logos_hir.specs.inside.BuildSteps.{add_parts}
use Rattle.logos_hir.proofs.builder.push_parts.Given as goal

abbrev pub invariant-loop-part : goal.invariant-loop-part
invariant-loop-part l = map tree_of l.parts.items ≡ add_parts (map tree_of l.initial.parts.items) (map tree_of l.yielded)
