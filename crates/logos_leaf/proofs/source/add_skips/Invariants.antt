use Rattle.std.proofs.Common.{List, map}
use Rattle.logos_token.specs.Faults.{Fault}
use Rattle.logos_leaf.specs.subpattern.SubpatternViews.{names_of}
use Rattle.logos_definition.specs.DefinitionViews.{definition_view}
use Rattle.logos_leaf.specs.Leaves.{LeafView}
use Rattle.logos_leaf.specs.LeafViews.{leaf_view}
use Rattle.logos_leaf.specs.Variants.{SkipsAdd}
use Rattle.logos_leaf.proofs.source.add_skips.Given as goal

-- a result for the rest completes to a result for the whole
abbrev pub invariant-loop-skip : goal.invariant-loop-skip
invariant-loop-skip l = (after : List LeafView) (new : List Fault) →
    SkipsAdd (names_of l.subpatterns) (map definition_view l.skip-iterator.rest.items) (map leaf_view l.leaves.items) after l.errors new →
    SkipsAdd (names_of l.subpatterns) (map definition_view l.fn.skips.items) (map leaf_view l.fn.leaves.items) after l.fn.errors new
