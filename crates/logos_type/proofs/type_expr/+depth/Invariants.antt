use Rattle.std.proofs.Common.{◌≡◌, map, drop}
use Rattle.logos_type.specs.Parts.{trees, tree_of}
use Rattle.logos_type.specs.Depth.{some_exceed}
use Rattle.logos_type.proofs.type_expr.+depth.Given as goal

-- some of the parts do exactly if some of those that are left do
abbrev pub invariant-some_exceed-loop-inner : goal.invariant-some_exceed-loop-inner
invariant-some_exceed-loop-inner l = some_exceed l.levels (trees (map tree_of l.parts)) ≡ some_exceed l.levels (trees (map tree_of (drop l.inner-index l.parts)))
