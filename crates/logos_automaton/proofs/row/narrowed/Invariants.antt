use Rattle.std.proofs.Common.{◌≡◌, ℕ, ◌<◌, length, slice_index}
use Rattle.logos_automaton.proofs.row.narrowed.Given as goal

abbrev pub invariant-loop-byte : goal.invariant-loop-byte
invariant-loop-byte l =
    (length l.narrow ≡ 256)
    × ((j : ℕ) → j < l.byte → slice_index l.narrow j ≡ slice_index l.row j)
