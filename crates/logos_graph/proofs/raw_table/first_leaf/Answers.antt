use Rattle.std.proofs.Common.{◌≡◌, [], drop, sym, ◌∙◌}
use Rattle.std.proofs.Math.ListN.{drop_of_length-le}
use Rattle.logos_graph.specs.View.{rules_of}
use Rattle.logos_graph.proofs.RawLemmas.{joined_none}
use Rattle.logos_graph.proofs.raw_table.first_leaf.Goals as goal

pub returns : goal.returns
returns c =
    let past : drop c.loop-leaf.leaf-index c.args.listed.now ≡ [] = drop_of_length-le c.args.listed.now c.loop-leaf-test.false in
    sym (joined_none (rules_of c.args.leaves.now) c.loop-leaf.best) ∙ rw past at c.loop-leaf.invariant
