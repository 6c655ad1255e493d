use Rattle.std.proofs.Common.{◌≡◌, ◌++◌, drop}
use Rattle.logos_automaton.specs.inside.Steps.{left_by, positions_by}
use Rattle.logos_automaton.proofs.cache.StateSteps.next_key.Given as goal

abbrev pub invariant-loop-live : goal.invariant-loop-live
invariant-loop-live l = record {
  positions : l.positions.items ++ positions_by l.self.steps.now (drop l.live-index l.self.lives.now) l.byte ≡ positions_by l.self.steps.now l.self.lives.now l.byte;
  matches : l.matches.items ++ left_by l.self.steps.now (drop l.live-index l.self.lives.now) l.byte ≡ left_by l.self.steps.now l.self.lives.now l.byte;
}
