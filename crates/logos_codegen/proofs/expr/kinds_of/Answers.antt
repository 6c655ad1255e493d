use Rattle.std.proofs.Common.{◌≡◌, [], drop, append-nil, sym, ◌∙◌, arith}
use Rattle.std.proofs.lemmas.List.{drop_all}
use Rattle.logos_codegen.proofs.ExprLemmas.{kinds_turn}
use Rattle.logos_codegen.proofs.expr.kinds_of.Goals as goal

pub loop-leaf-preserved : goal.loop-leaf-preserved
loop-leaf-preserved c =
    kinds_turn c.args.leaves.now c.loop-leaf.leaf-index c.leaf-item.result c.loop-leaf.kinds.items c.push.new.self.items c.kind_given.result c.loop-leaf-test.true
    c.in_ok-push.ensures.items (rw c.leaf-item.is at c.kind_given.ensures) c.loop-leaf.invariant

pub returns : goal.returns
returns c =
    let e : drop c.loop-leaf.leaf-index c.args.leaves.now ≡ [] = drop_all c.loop-leaf.leaf-index c.args.leaves.now (omega (arith, c.loop-leaf-test.false)) in
    sym (append-nil c.loop-leaf.kinds.items) ∙ rw e at c.loop-leaf.invariant
