use Rattle.std.proofs.Common.{◌+◌, ◌*◌, map, drop}
use Rattle.logos_type.specs.Parts.{trees, tree_of}
use Rattle.logos_type_params.specs.inside.Given.{params_of}
use Rattle.logos_type_params.proofs.SubstitutionLemmas.{Remains}
use Rattle.logos_type_params.proofs.substitution.+after.Given as goal

abbrev pub decreases-name_after : goal.decreases-name_after
decreases-name_after l = 3 * l.levels

abbrev pub decreases-whole_after : goal.decreases-whole_after
decreases-whole_after l = 3 * l.levels

abbrev pub decreases-type_after : goal.decreases-type_after
decreases-type_after l = 3 * l.levels + 1

abbrev pub decreases-parts_after : goal.decreases-parts_after
decreases-parts_after l = 3 * l.levels + 2

abbrev pub invariant-parts_after-loop-part : goal.invariant-parts_after-loop-part
invariant-parts_after-loop-part l =
    Remains (params_of l.params) l.levels (trees (map tree_of l.parts)) l.after.items (trees (map tree_of (drop l.part-index l.parts)))
