use Rattle.std.proofs.Common.{◌≡◌, None, Some, length, slice_get, subst, sym, arith}
use Rattle.logos_automaton.proofs.keys.CacheLemmas.{cached_more, complete, got_front, lacking}
use Rattle.logos_automaton.proofs.cache.StepCache.add_missing.Goals as goal

pub steps_of-requires-clause-state : goal.steps_of-requires-clause-state
steps_of-requires-clause-state c =
    let trees = c.args.trees.now in
    let self = c.args.self.now in
    let here : c.len.result ≡ length self.steps.items = omega (arith, self.steps.ok.0) in
    let at = subst (λ n. slice_get self.states.keys n ≡ Some c.in-Some.state.now) here (sym c.in-Some.ensures.key) in
    (lacking trees.nodes.now trees.starts.now self.states.keys self.steps.items c.in-Some.state.now at c.requires.missing).1

pub returns-in_ok-push-in-Some-clause-cached : goal.returns-in_ok-push-in-Some-clause-cached
returns-in_ok-push-in-Some-clause-cached c =
    let trees = c.args.trees.now in
    let self = c.args.self.now in
    let here : c.len.result ≡ length self.steps.items = omega (arith, self.steps.ok.0) in
    let at = subst (λ n. slice_get self.states.keys n ≡ Some c.in-Some.state.now) here (sym c.in-Some.ensures.key) in
    let l = lacking trees.nodes.now trees.starts.now self.states.keys self.steps.items c.in-Some.state.now at c.requires.missing in
    rw c.in_ok-push-in-Some.ensures.items (cached_more trees.nodes.now trees.starts.now self.states.keys self.steps.items c.in-Some.state.now c.in_ok-steps-in-Some.steps at l.0 c.in_ok-steps-in-Some.ensures)

pub returns-in_ok-push-in-Some-clause-keeps : goal.returns-in_ok-push-in-Some-clause-keeps
returns-in_ok-push-in-Some-clause-keeps c = λ i steps at. rw c.in_ok-push-in-Some.ensures.items (got_front c.args.self.now.steps.items _ i steps at)

pub returns-in-None-clause-cached : goal.returns-in-None-clause-cached
returns-in-None-clause-cached c =
    let trees = c.args.trees.now in
    let self = c.args.self.now in
    let here : c.len.result ≡ length self.steps.items = omega (arith, self.steps.ok.0) in
    complete trees.nodes.now trees.starts.now self.states.keys self.steps.items (subst (λ n. slice_get self.states.keys n ≡ None) here (sym c.in-None.ensures.key)) c.requires.missing
