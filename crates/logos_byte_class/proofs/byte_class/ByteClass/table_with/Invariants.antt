use Rattle.std.proofs.Common.{◌≡◌, ℕ, ◌<◌, ◌||◌, length, false, slice_index_or}
use Rattle.logos_byte_class.specs.Bytes.{has_byte}
use Rattle.logos_byte_class.proofs.byte_class.ByteClass.table_with.Given as goal

abbrev pub invariant-loop-byte : goal.invariant-loop-byte
invariant-loop-byte l =
    (length l.table ≡ 256) × ((b : ℕ) → b < l.byte → slice_index_or l.table b false ≡ (has_byte l.self b || has_byte l.other b))
