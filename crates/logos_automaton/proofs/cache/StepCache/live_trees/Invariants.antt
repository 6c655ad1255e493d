use Rattle.std.proofs.Common.{◌-◌, ◌≤◌, length}
use Rattle.logos_automaton.specs.inside.Prepared.{IsCacheOf}
use Rattle.logos_automaton.specs.inside.Steps.{AreLive}
use Rattle.logos_automaton.proofs.cache.StepCache.live_trees.Given as goal

abbrev pub invariant-loop-tree : goal.invariant-loop-tree
invariant-loop-tree l = record {
  within : l.tree ≤ length l.trees.nodes.now;
  cached : IsCacheOf l.trees l.self;
  live : AreLive l.trees.nodes.now l.trees.starts.now l.key.positions.items l.key.kind l.self.steps.items 0 l.lives.items l.tree;
}

abbrev pub decreases-loop-tree : goal.decreases-loop-tree
decreases-loop-tree l = length l.trees.nodes.now - l.tree
