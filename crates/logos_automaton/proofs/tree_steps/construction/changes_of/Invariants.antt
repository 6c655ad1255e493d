use Rattle.std.proofs.Common.{◌≡◌, ℕ, ◌+◌, ◌<◌, ◌⊎◌, slice_index}
use Rattle.logos_positions.specs.Marks.{Has}
use Rattle.logos_automaton.proofs.tree_steps.construction.changes_of.Given as goal

abbrev pub invariant-loop-byte : goal.invariant-loop-byte
invariant-loop-byte l = (x : ℕ) → x + 1 < l.byte → Has l.changes.items (x + 1) ⊎ (slice_index l.by_byte x ≡ slice_index l.by_byte (x + 1))
