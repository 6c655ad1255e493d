use Rattle.std.proofs.Common.{◌≡◌, ◌∙◌, ◌<◌, [], length, drop, map, append-nil, sym, arith}
use Rattle.std.proofs.lemmas.List.{drop_all}
use Rattle.logos_code.specs.Uses.{use_by}
use Rattle.logos_code.proofs.UseLemmas.{uses_turn}
use Rattle.logos_code.proofs.code.uses.uses_of.Goals as goal

pub loop-leaf-preserved : goal.loop-leaf-preserved
loop-leaf-preserved c =
    let h : c.loop-leaf.leaf-index < length c.args.parts.now.leaves.items = rw c.deref-leaf-items.ensures.value at c.loop-leaf-test.true in
    uses_turn c.args.parts.now.leaves.items c.loop-leaf.leaf-index c.leaf-item.result c.loop-leaf.uses.items c.push.new.self.items c.leaf_use.result _ h
    c.in_ok-push.ensures.items (rw c.deref-leaf-items.ensures.value at (rw c.leaf-item.is at c.leaf_use.ensures)) c.loop-leaf.invariant

pub returns : goal.returns
returns c =
    let past = rw c.deref-leaf-items.ensures.value at c.loop-leaf-test.false in
    let e : drop c.loop-leaf.leaf-index c.args.parts.now.leaves.items ≡ [] = drop_all c.loop-leaf.leaf-index c.args.parts.now.leaves.items (omega (arith, past)) in
    sym (append-nil (map use_by c.loop-leaf.uses.items)) ∙ rw e at c.loop-leaf.invariant
