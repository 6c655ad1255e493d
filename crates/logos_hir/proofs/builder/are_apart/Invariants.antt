use Rattle.std.proofs.Common.{◌≡◌, false, map, drop}
use Rattle.logos_hir.specs.Hir.{tree_of}
use Rattle.logos_hir.specs.inside.BuildSteps.{are_apart}
use Rattle.logos_hir.proofs.builder.are_apart.Given as goal

-- none join in the whole exactly if none do in the rest
abbrev pub invariant-loop-part : goal.invariant-loop-part
invariant-loop-part l = are_apart l.before (map tree_of (drop l.part-index l.parts)) ≡ are_apart false (map tree_of l.parts)
