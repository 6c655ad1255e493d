use Rattle.logos_automaton.specs.inside.Prepared.{cores_of}
use Rattle.logos_automaton.proofs.row.row_of.Goals as goal

pub live_in-requires-clause-cached : goal.live_in-requires-clause-cached
live_in-requires-clause-cached c = c.trim.ensures c.args.trees.now c.requires.cached

pub returns-clause-extends : goal.returns-clause-extends
returns-clause-extends c =
    c.row_by.ensures.extends (cores_of c.args.trees.now) c.args.state (rw (c.deref.ensures.value, c.deref-2.ensures.value) c.in_ok-lives.ensures.foresees)

pub returns-clause-row : goal.returns-clause-row
returns-clause-row c =
    c.row_by.ensures.row (cores_of c.args.trees.now) c.args.state (rw (c.deref.ensures.value, c.deref-2.ensures.value) c.in_ok-lives.ensures.foresees)
