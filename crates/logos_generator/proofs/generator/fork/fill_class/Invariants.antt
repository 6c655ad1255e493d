use Rattle.std.proofs.Common.{◌≡◌, ℕ, ◌<◌, map, drop, slice_index}
use Rattle.logos_hir.specs.ByteRanges.{is_in}
use Rattle.logos_byte_class.specs.Bytes.{bounds}
use Rattle.logos_code.specs.CodeView.{entry_of}
use Rattle.logos_generator.specs.Nodes.{hit}
use Rattle.logos_generator.proofs.generator.fork.fill_class.Given as goal

-- the ranges that are left complete the table
abbrev pub invariant-loop-range : goal.invariant-loop-range
invariant-loop-range l = (k : ℕ) → k < 256 →
    hit (is_in (map bounds (drop l.range-index l.range-items)) k) l.target (entry_of (slice_index l.table k)) ≡ hit (is_in (map bounds l.range-items) k) l.target (entry_of (slice_index l.initial.table k))
