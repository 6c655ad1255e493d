use Rattle.std.proofs.Common.{◌≡◌, map, drop}
use Rattle.logos_hir.specs.Tree.{trees}
use Rattle.logos_hir.specs.Hir.{tree_of}
use Rattle.logos_hir.specs.Measure.{is_text, all_text}
use Rattle.logos_hir.proofs.measures.+is_utf8.Given as goal

-- the whole is text exactly if the rest is
abbrev pub invariant-loop-part : goal.invariant-loop-part
invariant-loop-part l = is_text (tree_of l.hir) ≡ all_text (trees (map tree_of (drop l.part-index l.part-items)))
