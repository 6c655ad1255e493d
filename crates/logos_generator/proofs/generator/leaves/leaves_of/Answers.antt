use Rattle.std.proofs.Common.{◌≡◌, ◌∙◌, [], drop, map, append-nil, sym, arith}
use Rattle.std.proofs.lemmas.List.{drop_all}
use Rattle.logos_generator.specs.GeneratorValue.{code_leaf_value}
use Rattle.logos_generator.proofs.LeafLemmas.{leaves_turn, uses_alike}
use Rattle.logos_generator.proofs.generator.leaves.leaves_of.Goals as goal

pub loop-leaf-preserved : goal.loop-leaf-preserved
loop-leaf-preserved c =
    leaves_turn c.args.leaves.now c.loop-leaf.leaf-index c.leaf-item.result c.loop-leaf.made.items c.push.new.self.items c.in_ok-leaf_made.field-0 c.loop-leaf-test.true
    c.in_ok-push.ensures.items (rw c.leaf-item.is at c.in_ok-leaf_made.ensures) c.loop-leaf.invariant

pub returns-clause-leaves : goal.returns-clause-leaves
returns-clause-leaves c =
    let e : drop c.loop-leaf.leaf-index c.args.leaves.now ≡ [] = drop_all c.loop-leaf.leaf-index c.args.leaves.now (omega (arith, c.loop-leaf-test.false)) in
    sym (append-nil (map code_leaf_value c.loop-leaf.made.items)) ∙ rw e at c.loop-leaf.invariant

pub returns-clause-uses : goal.returns-clause-uses
returns-clause-uses c =
    let e : drop c.loop-leaf.leaf-index c.args.leaves.now ≡ [] = drop_all c.loop-leaf.leaf-index c.args.leaves.now (omega (arith, c.loop-leaf-test.false)) in
    uses_alike c.loop-leaf.made.items c.args.leaves.now (sym (append-nil (map code_leaf_value c.loop-leaf.made.items)) ∙ rw e at c.loop-leaf.invariant)
