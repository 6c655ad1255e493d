use Rattle.std.proofs.Common.{◌≡◌, length, refl, subst, sym, arith}
use Rattle.logos_automaton.specs.declared.cache.LiveTree.{LiveTree}
use Rattle.logos_automaton.specs.inside.Steps.{AreLive, tree_view}
use Rattle.logos_automaton.proofs.keys.StepsLemmas.{live_by, live_grown, live_more}
use Rattle.logos_automaton.proofs.cache.StepCache.live_trees.Goals as goal

pub loop-tree-init : goal.loop-tree-init
loop-tree-init c =
    let n = c.next_tree-tree.ensures in
    record {
      within = omega (arith, n.bound, c.requires.prepared.starts.count);
      cached = c.requires.cached;
      live = rw c.new-lives.ensures.items (record { order = omega arith; none = rw (← c.deref.ensures.value) n.unmarked });
    }

pub loop-tree-preserved : goal.loop-tree-preserved
loop-tree-preserved c =
    let n = c.next_tree-tree-in-loop-tree.ensures in
    let i = c.loop-tree.invariant in
    let trees = c.args.trees.now in
    let key = c.args.key.now in
    let nodes = trees.nodes.now in
    let starts = trees.starts.now in
    let are = c.requires.prepared.starts in
    let state = c.in_ok-state.state in
    let made = c.in_ok-state.ensures in
    let all = c.index_of.new.self.steps.items in
    let tree = c.loop-tree.tree in
    let index = c.in_ok-steps.steps in
    let live : LiveTree = record { tree = tree; steps = index } in
    record {
      within = omega (arith, n.bound, are.count);
      cached = c.in_ok-steps.ensures.cached;
      live = rw c.in_ok-push.ensures.items
          (live_more nodes starts are key.positions.items key.kind all c.loop-tree.lives.items 0 tree c.next_tree-tree-in-loop-tree.result live
          (live_grown nodes starts are key.positions.items key.kind c.loop-tree.self.steps.items all c.in_ok-steps.ensures.keeps c.loop-tree.lives.items 0 tree i.live)
          refl
          (live_by nodes starts are key.positions.items key.kind all (tree_view state) index live (sym made.tree) refl made.kind c.loop-tree-test.true made.has c.in_ok-steps.ensures.has)
          (record { order = n.after; none = rw (← c.deref-in-loop-tree.ensures.value) n.unmarked }));
    }

pub returns-clause-live : goal.returns-clause-live
returns-clause-live c =
    let trees = c.args.trees.now in
    let key = c.args.key.now in
    let i = c.loop-tree.invariant in
    let all : c.loop-tree.tree ≡ length trees.nodes.now = omega (arith, i.within, c.loop-tree-test.false) in
    subst (λ j. AreLive trees.nodes.now trees.starts.now key.positions.items key.kind c.loop-tree.self.steps.items 0 c.loop-tree.lives.items j) all i.live
