use Rattle.std.proofs.Common.{◌≡◌, ℕ, ◌<◌, false, length, slice_index, slice_index_or}
use Rattle.logos_automaton.proofs.byte_equivalence.add_bytes.Given as goal

abbrev pub invariant-loop-byte : goal.invariant-loop-byte
invariant-loop-byte l = record {
  size : length l.first ≡ 256;
  same : (b : ℕ) → b < 256 → slice_index_or l.first b false ≡ false → slice_index_or l.initial.first b false ≡ false;
  none : (b : ℕ) → b < 256 → slice_index_or l.first b false ≡ false → (j : ℕ) → j < l.byte-index → slice_index l.bytes j ≡ b → ⊥;
}
