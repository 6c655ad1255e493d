use Rattle.std.proofs.Common.{◌≡◌, ℕ, ◌<◌, nat_le, nat_lt, ◌&&◌, slice_index, length, max, ◌+◌, ◌≤◌}
use Rattle.logos_code.specs.CodeView.{entry_of}
use Rattle.logos_generator.specs.Nodes.{hit}
use Rattle.logos_generator.proofs.generator.fork.fill_range.Given as goal

abbrev pub invariant-loop-b : goal.invariant-loop-b
invariant-loop-b l = (length l.table ≡ 256) × (l.b ≤ max l.first (l.last + 1)) × ((k : ℕ) → k < 256 → entry_of (slice_index l.table k) ≡ hit (nat_le l.first k && nat_lt k l.b) l.target (entry_of (slice_index l.initial.table k)))
