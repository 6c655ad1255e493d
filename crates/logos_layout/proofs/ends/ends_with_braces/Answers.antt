use Rattle.std.proofs.Common.{subst}
use Rattle.logos_layout.specs.Layout.{EndsWithBraces}
use Rattle.logos_layout.specs.Layout.EndsWithBraces.{later}
use Rattle.logos_token.specs.Views.{tree_of}
use Rattle.logos_layout.proofs.EndLemmas.{last_of}
use Rattle.logos_layout.proofs.ends.ends_with_braces.Goals as goal

pub loop-tree-preserved : goal.loop-tree-preserved
loop-tree-preserved c = λ left. c.loop-tree.invariant (later (subst (EndsWithBraces c.args.to) c.rest-rest.ensures left))

pub returns-then-is_empty : goal.returns-then-is_empty
returns-then-is_empty c =
    λ is. c.loop-tree.invariant (last_of c.args.to (tree_of c.in-Some.tree) _ _ c.in-Some.ensures.cases c.rest-rest.ensures (c.is_empty.ensures.0 c.if-is_empty.true) (c.is_braces_to.ensures is))
