use Rattle.std.proofs.Common.{◌≡◌, ◌++◌, map, drop}
use Rattle.logos_type.specs.Parts.{tree_of}
use Rattle.logos_type.proofs.type_expr.+copying.Given as goal

-- the copies, and the rest to be copied
abbrev pub invariant-copy_parts-loop-inner : goal.invariant-copy_parts-loop-inner
invariant-copy_parts-loop-inner l = map tree_of l.copies.items ++ map tree_of (drop l.inner-index l.inner-items) ≡ map tree_of l.inner-items
