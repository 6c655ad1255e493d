use Rattle.std.proofs.Common.{◌≡◌, ℕ, ◌+◌, ◌<◌, IsTrue, false, slice_index_or, drop}
use Rattle.logos_positions.specs.Kinds.{kind_of_byte}
use Rattle.logos_automaton.specs.inside.Steps.{AreSameBy}
use Rattle.logos_automaton.proofs.cache.StateSteps.changes.Given as goal

abbrev pub invariant-loop-live : goal.invariant-loop-live
invariant-loop-live l = record {
  kinds : (x : ℕ) → x + 1 < 256 → slice_index_or l.first (x + 1) false ≡ false → IsTrue l.self.looks → kind_of_byte x ≡ kind_of_byte (x + 1);
  same : (x : ℕ) → x + 1 < 256 → slice_index_or l.first (x + 1) false ≡ false →
      AreSameBy l.self.steps.now (drop l.live-index l.self.lives.now) x (x + 1) → AreSameBy l.self.steps.now l.self.lives.now x (x + 1);
}
