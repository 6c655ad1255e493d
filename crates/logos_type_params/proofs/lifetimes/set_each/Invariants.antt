use Rattle.std.proofs.Common.{◌≡◌, ◌++◌, map, drop}
use Rattle.logos_type.specs.Parts.{tree_of}
use Rattle.logos_type_params.specs.TypeParams.{own_lifetime}
use Rattle.logos_type_params.proofs.lifetimes.set_each.Given as goal

-- the parts so far, and the rest of them
abbrev pub invariant-loop-part : goal.invariant-loop-part
invariant-loop-part l = map tree_of l.after.items ++ map (λ part. own_lifetime (tree_of part)) (drop l.part-index l.parts) ≡ map (λ part. own_lifetime (tree_of part)) l.parts
