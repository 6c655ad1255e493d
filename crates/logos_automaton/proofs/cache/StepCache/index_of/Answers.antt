use Rattle.logos_automaton.proofs.keys.CacheLemmas.{almost, has_by, same_tree}
use Rattle.logos_automaton.proofs.cache.StepCache.index_of.Goals as goal

pub add_missing-requires-clause-missing : goal.add_missing-requires-clause-missing
add_missing-requires-clause-missing c =
    let trees = c.args.trees.now in
    almost trees.nodes.now trees.starts.now c.args.self.now.states.keys c.args.state _ _ c.args.self.now.steps.items c.in_ok-index.ensures.keys c.requires.state c.requires.cached

pub returns-clause-has : goal.returns-clause-has
returns-clause-has c =
    let trees = c.args.trees.now in
    let h = c.in_ok-index.ensures.stored in
    has_by trees.nodes.now trees.starts.now c.add_missing.new.self.steps.items c.add_missing.new.self.states.keys c.args.state h.0 c.in_ok-index.index c.in_ok-add_missing.ensures.cached
    (rw c.in_ok-add_missing.ensures.same h.1) (same_tree c.args.state h.0 h.2)
