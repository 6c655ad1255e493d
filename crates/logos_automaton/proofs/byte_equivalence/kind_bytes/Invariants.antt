use Rattle.std.proofs.Common.{◌≡◌, ℕ, ◌+◌, ◌<◌, false, length, slice_index_or}
use Rattle.logos_positions.specs.Kinds.{kind_of_byte}
use Rattle.logos_automaton.proofs.byte_equivalence.kind_bytes.Given as goal

abbrev pub invariant-loop-byte : goal.invariant-loop-byte
invariant-loop-byte l = record {
  size : length l.first ≡ 256;
  same : (b : ℕ) → b + 1 < l.byte → slice_index_or l.first (b + 1) false ≡ false → kind_of_byte b ≡ kind_of_byte (b + 1);
}
