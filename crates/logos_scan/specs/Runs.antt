-- The views of a scan over the chunks of an input in contracts.
use Rattle.std.specs.Prelude.{◌≡◌, ℕ, ◌+◌, ◌<◌, ◌≤◌, ◌⊎◌, min, List, length, drop, slice_index}
use Rattle.logos_automaton.specs.Munch.{matched, failed, ended}
use Rattle.logos_code.specs.Code.{CodeValue}
use Rattle.logos_code.specs.Rows.{IsUse}
use Rattle.logos_code.specs.declared.code.rows.MatchUse.TheVariants.{Emits as IsEmitted}
use Rattle.logos_scan.specs.fold.Folds.{AreFolded}
use Rattle.logos_machine.specs.inside.Looks.{Attempted}
use Rattle.logos_scan.specs.Attempts.{ComesTo, SkipsTo}
use Rattle.logos_scan.specs.declared.run.Loaded.{Loaded}
use Rattle.logos_scan.specs.declared.run.Reading.{Reading}
use Rattle.logos_scan.specs.declared.run.Run.{Run}
use Rattle.logos_scan.specs.declared.attempts.Taken.{Taken}
use Rattle.logos_scan.specs.declared.attempts.Taken.TheVariants.{Emits, CallsBack, Fails, Ends}
use Rattle.logos_scan.specs.walk.Cursor.{HasRoom, end_bit, token_bit}
use Rattle.logos_scan.specs.walk.Cursors.{IsInWord, IsMarked, IsAt, start_at, start_of}
use Rattle.logos_scan.specs.declared.walk.cursor.ChunkCursor.{ChunkCursor}
use Rattle.logos_scan.specs.declared.walk.masks.ChunkEntries.{ChunkEntries}
use Rattle.logos_scan.specs.walk.Walk.{IsRowStart, Walked}

-- The rows are the folded rows of the code.
abbrev pub IsReading : Reading → Type 0
IsReading reading = AreFolded reading.code.now reading.rows.now

-- A scan with its chunk.
pub record WithChunk : Type 0 where
  pub chunk : ChunkEntries
  pub cursor : ChunkCursor
  pub count : ℕ
  pub row_start : ℕ
  pub low : ℕ

-- A scan and its chunk, combined.
abbrev pub with_chunk : ChunkEntries → Run → WithChunk
with_chunk chunk run = record { chunk = chunk; cursor = run.cursor; count = run.count; row_start = run.row_start; low = run.low }

-- No flag is set after the bytes of a chunk.
abbrev pub IsEmptyFrom : ℕ → List ℕ → Type 0
IsEmptyFrom count entries = (k : ℕ) → count ≤ k → k < 4608 → slice_index entries k ≡ 0

-- Entries of the bytes of an input from the base on, which begin in the row.
pub record IsLoaded (rows input : List ℕ) (base row_start : ℕ) (entries : List ℕ) (loaded : Loaded) : Type 0 where
  pub within : base + loaded.count ≤ length input
  pub few : loaded.count ≤ 4608
  pub full : base + loaded.count < length input → loaded.count ≡ 4608
  pub walked : Walked rows (drop base input) row_start entries 0 loaded.count loaded.row_start
  pub stays : IsRowStart rows loaded.row_start
  pub rest : IsEmptyFrom loaded.count entries

-- A scan has a chunk of the input, with its flags. From one entry on, its entries are those of a
-- walk.
pub record IsChunk (rows input : List ℕ) (run : WithChunk) : Type 0 where
  pub within : run.cursor.base + run.count ≤ length input
  pub few : run.count ≤ 4608
  pub full : run.cursor.base + run.count < length input → run.count ≡ 4608
  pub stays : IsRowStart rows run.row_start
  pub rest : IsEmptyFrom run.count run.chunk.entries
  pub marked : IsMarked run.chunk
  pub cursor : IsAt run.chunk.entries run.cursor
  pub room : HasRoom run.cursor.base
  pub whole : (row_start : ℕ) × Walked rows (drop run.cursor.base input) row_start run.chunk.entries run.low run.count run.row_start

-- The attempt that begins at `start` is active before the byte of entry `at`, from which on the
-- entries are those of a walk.
pub record IsRun (code : CodeValue) (rows input : List ℕ) (run : WithChunk) (start at : ℕ) : Type 0 where
  pub in_chunk : IsChunk rows input run
  pub near : at ≤ run.count
  pub before : ℕ
  pub is_at : ComesTo code input start (run.cursor.base + at) before
  pub walked : Walked rows (drop run.cursor.base input) before run.chunk.entries at run.count run.row_start

-- The entry before which a scan is.
abbrev pub point_of : WithChunk → ℕ
point_of run = min run.cursor.from run.count

-- The scan is between two calls.
abbrev pub IsReady : Reading → WithChunk → Type 0
IsReady reading run = IsRun reading.code.now reading.rows.now reading.input.now run (start_of run.cursor) (point_of run)

-- The attempt of a scan, which begins at `start`, is active before an entry that its cursor has
-- passed, or at the end of the chunk.
pub record IsHeld (reading : Reading) (run : WithChunk) (start : ℕ) : Type 0 where
  pub at : ℕ
  pub is_at : IsRun reading.code.now reading.rows.now reading.input.now run start at
  pub passed : ((at < run.count) × (at < run.cursor.from)) ⊎ ((at ≡ run.count) × (run.count ≤ run.cursor.from))

-- A scan has reached a pending entry, and its cursor is after it.
pub record IsFlagged (reading : Reading) (start : ℕ) (run : WithChunk) (at : ℕ) : Type 0 where
  pub is_at : IsRun reading.code.now reading.rows.now reading.input.now run (start_at run.cursor at) at
  pub inside : at < run.count
  pub token : token_bit run.chunk.entries at ≡ 1
  pub after : run.cursor.from ≡ at + 1
  pub word : IsInWord run.cursor at
  pub skips : SkipsTo reading.code.now reading.input.now start (start_at run.cursor at)
  pub ended : end_bit run.chunk.entries at ≡ 1 → start_of run.cursor ≡ run.cursor.base + at

-- A scan has reached the end of the input.
pub record IsOver (reading : Reading) (start : ℕ) (run : WithChunk) : Type 0 where
  pub is_at : IsRun reading.code.now reading.rows.now reading.input.now run run.cursor.word_start run.count
  pub last : run.cursor.base + run.count ≡ length reading.input.now
  pub after : run.cursor.from ≡ 4608
  pub skips : SkipsTo reading.code.now reading.input.now start run.cursor.word_start

-- The result, after matches that are skipped, of a match attempt, and the start of the next one.
abbrev pub IsTaken : CodeValue → List ℕ → ℕ → Taken → ℕ → Type 0
IsTaken code bytes from (Emits leaf span) next =
    SkipsTo code bytes from span.from × ((steps : ℕ) × Attempted code bytes span.from (matched leaf.0 span.to) steps) × IsUse code leaf.0 IsEmitted × (next ≡ span.to)
IsTaken code bytes from (CallsBack leaf span) next = SkipsTo code bytes from span.from × ((steps : ℕ) × Attempted code bytes span.from (matched leaf.0 span.to) steps) × (next ≡ span.to)
IsTaken code bytes from (Fails span) next = SkipsTo code bytes from span.from × ((steps : ℕ) × Attempted code bytes span.from (failed span.to) steps) × (next ≡ span.to)
IsTaken code bytes from Ends next = SkipsTo code bytes from next × ((steps : ℕ) × Attempted code bytes next ended steps)
