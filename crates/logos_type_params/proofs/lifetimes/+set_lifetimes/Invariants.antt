use Rattle.std.proofs.Common.{◌≡◌, ◌++◌, map, drop}
use Rattle.logos_type.specs.Parts.{tree_of}
use Rattle.logos_type_params.specs.TypeParams.{with_lifetimes}
use Rattle.logos_type_params.proofs.lifetimes.+set_lifetimes.Given as goal

-- the parts so far, and the rest of them
abbrev pub invariant-loop-inner : goal.invariant-loop-inner
invariant-loop-inner l = map tree_of l.after.items ++ map (λ part. with_lifetimes (tree_of part)) (drop l.inner-index l.inner-items) ≡ map (λ part. with_lifetimes (tree_of part)) l.inner-items
