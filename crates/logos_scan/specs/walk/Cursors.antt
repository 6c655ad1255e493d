-- The views of a cursor, and of a chunk with its flags, in contracts.
use Rattle.std.specs.Prelude.{◌≡◌, ℕ, ◌+◌, ◌-◌, ◌*◌, ◌^◌, ◌<◌, ◌≤◌, ◌⊎◌, List, slice_index, bit_and}
use Rattle.logos_scan.specs.declared.walk.cursor.ChunkCursor.{ChunkCursor}
use Rattle.logos_scan.specs.declared.walk.masks.ChunkEntries.{ChunkEntries}
use Rattle.logos_scan.specs.walk.Masks.{Marks, MarksFrom}
use Rattle.logos_scan.specs.walk.Cursor.{Awaits, IsNext, NoToken, StartsAt, end_bit, start_by}

-- The words contain the flags of all entries.
pub record IsMarked (chunk : ChunkEntries) : Type 0 where
  pub ends : Marks 31 chunk.entries 72 chunk.ends
  pub tokens : Marks 30 chunk.entries 72 chunk.tokens

-- All words but those from `from` up to `to` contain the flags of their entries.
pub record IsMarkedBeside (from to : ℕ) (chunk : ChunkEntries) : Type 0 where
  pub ends : (w : ℕ) → w < 72 → (w < from) ⊎ (to ≤ w) → MarksFrom 31 chunk.entries (64 * w) (slice_index chunk.ends w)
  pub tokens : (w : ℕ) → w < 72 → (w < from) ⊎ (to ≤ w) → MarksFrom 30 chunk.entries (64 * w) (slice_index chunk.tokens w)

-- The cursor has the flags that are left.
abbrev pub IsAt : List ℕ → ChunkCursor → Type 0
IsAt trace cursor = Awaits trace cursor.word cursor.tokens cursor.ends cursor.from

-- The start of the attempt that is active before an entry of the cursor's word, or before the next
-- word.
abbrev pub start_at : ChunkCursor → ℕ → ℕ
start_at cursor at = start_by (cursor.base + 64 * cursor.word) cursor.word_start (bit_and cursor.ends (2 ^ (at - 64 * cursor.word) - 1))

-- The start of the attempt that is active at the cursor.
abbrev pub start_of : ChunkCursor → ℕ
start_of cursor = start_at cursor cursor.from

-- The entry is in the cursor's word.
abbrev pub IsInWord : ChunkCursor → ℕ → Type 0
IsInWord cursor at = (64 * cursor.word ≤ at) × (at < 64 * cursor.word + 64)

-- The cursor has passed entries that are not pending.
pub record Passes (trace : List ℕ) (old new : ChunkCursor) : Type 0 where
  pub base : new.base ≡ old.base
  pub order : old.from ≤ new.from
  pub none : NoToken trace old.from new.from
  pub starts : StartsAt old.base trace old.from (start_of old) new.from (start_of new)

-- The cursor has passed the next pending entry. The next attempt begins there if a match ends
-- before it.
pub record Finds (trace : List ℕ) (old new : ChunkCursor) (at : ℕ) : Type 0 where
  pub next : IsNext trace old.from at
  pub after : new.from ≡ at + 1
  pub word : IsInWord new at
  pub starts : StartsAt old.base trace old.from (start_of old) at (start_at new at)
  pub ended : end_bit trace at ≡ 1 → start_of new ≡ new.base + at

-- There is no pending entry, and the cursor has passed all entries.
pub record Finishes (trace : List ℕ) (old new : ChunkCursor) : Type 0 where
  pub none : NoToken trace old.from 4608
  pub after : new.from ≡ 4608
  pub start : start_of new ≡ new.word_start
  pub starts : StartsAt old.base trace old.from (start_of old) 4608 new.word_start
