use Rattle.std.proofs.Common.{ap, arith, length}
use Rattle.logos_records.proofs.ExampleLemmas.{next_example, no_example}
use Rattle.logos_records.proofs.examples.push_example_records.Goals as goal

pub loop-leaf-preserved : goal.loop-leaf-preserved
loop-leaf-preserved c =
    let all = ap length c.leaves-leaf-end.ensures in
    record {
      within = omega (arith, all);
      rest = λ of_leaves faultless new rest.
          c.loop-leaf.invariant.rest of_leaves faultless new (next_example c.args.one.name.now c.args.one.graph.now.leaves c.args.one.graph.now.utf8 c.loop-leaf.leaf (length c.args.one.graph.now.leaves) (omega (arith, all))
          (c.in_ok-push_example_record.ensures of_leaves faultless) rest);
    }

pub returns : goal.returns
returns c =
    let all = ap length c.leaves-leaf-end.ensures in
    λ of_leaves faultless. c.loop-leaf.invariant.rest of_leaves faultless _ (no_example c.args.one.name.now c.args.one.graph.now.leaves c.args.one.graph.now.utf8 c.loop-leaf.leaf (length c.args.one.graph.now.leaves) _ (omega (arith, all)))
