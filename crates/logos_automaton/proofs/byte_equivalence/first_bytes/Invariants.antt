use Rattle.std.proofs.Common.{◌≡◌, ℕ, ◌+◌, ◌-◌, ◌<◌, ◌≤◌, false, IsTrue, drop, length, map, slice_index, slice_index_or}
use Rattle.logos_automaton.specs.inside.Alike.{AreReadAlike}
use Rattle.logos_positions.specs.Kinds.{kind_of_byte}
use Rattle.logos_positions.specs.Marks.{Has}
use Rattle.logos_positions.specs.Node.{core_of}
use Rattle.logos_automaton.proofs.byte_equivalence.first_bytes.Given as goal

abbrev pub invariant-loop-number : goal.invariant-loop-number
invariant-loop-number l = record {
  within : l.number ≤ length l.fn.trees.nodes.now;
  kinds : (b : ℕ) → b + 1 < 256 → slice_index_or l.first (b + 1) false ≡ false → IsTrue l.fn.trees.looks → kind_of_byte b ≡ kind_of_byte (b + 1);
  alike : (b : ℕ) → b + 1 < 256 → slice_index_or l.first (b + 1) false ≡ false →
      AreReadAlike (map core_of (drop l.number l.fn.trees.nodes.now)) (λ p. Has l.marks (slice_index l.fn.trees.starts.now l.number + p)) (IsTrue l.entered) b (b + 1) →
      AreReadAlike (map core_of l.fn.trees.nodes.now) (Has l.marks) (IsTrue l.entered) b (b + 1);
}

abbrev pub decreases-loop-number : goal.decreases-loop-number
decreases-loop-number l = length l.fn.trees.nodes.now - l.number
