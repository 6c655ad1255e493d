use Rattle.logos_warnings.proofs.ShownLemmas.{adds_none}
use Rattle.logos_causes.specs.Warned.{IsHidden}
use Rattle.logos_causes.proofs.shadowed_leaves.add_if_hidden.Goals as goal

pub add_leaf-requires : goal.add_leaf-requires
add_leaf-requires c = λ is. c.is_unmarked.ensures c.if-is_unmarked.true ((c.requires.marks.marked c.args.number c.requires.inside).1 is)

pub returns : goal.returns
returns c = adds_none (IsHidden c.args.graph.now) _
