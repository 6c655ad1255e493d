use Rattle.std.proofs.Common.{◌≡◌, ℕ, ◌<◌, ◌≤◌, not, false, slice_index_or}
use Rattle.logos_byte_class.proofs.byte_class.first_where.Given as goal

abbrev pub invariant-loop-i : goal.invariant-loop-i
invariant-loop-i l = (b : ℕ) → l.from ≤ b → b < l.i → slice_index_or l.table b false ≡ not l.wanted
