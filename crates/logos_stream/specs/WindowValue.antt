-- The view of the bytes of a stream that are in memory.
use Rattle.std.specs.Prelude.{◌≡◌, ◌⊎◌, ℕ, ◌+◌, ◌<◌, ◌≤◌, ◌^◌, Bool, false, List, [], ◌++◌, length, take, drop, slice_range, Option, IsTrue, IsFalse, IsUtf8}
use Rattle.std.specs.Io.KnownBytes.{Consumes, IsAtEnd, Keeps}
use Rattle.logos_stream.specs.Tails.{IsNoText}

pub record WindowValue (R : Type 0) : Type 0 where
  pub reader : R
  -- Whether the bytes are text.
  pub utf8 : Bool
  -- The bytes that the last move passed without an item, and those at the span of its item.
  pub skipped : List ℕ
  pub slice : List ℕ
  -- The lexable bytes after `skipped` and `slice`.
  pub lexed : List ℕ
  -- The bytes that were read after `lexed`: in a text, an incomplete character, or bytes that are
  -- not UTF-8.
  pub after : List ℕ
  -- Whether `lexed` are the last bytes that are lexed.
  pub is_last : Bool
  -- Whether the reader reached its end.
  pub is_over : Bool
  -- The number of bytes of the stream before `lexed`, saturating at the greatest number.
  pub offset : ℕ
  -- The greatest number of bytes in memory.
  pub bound : ℕ
  -- The number of bytes that the next match attempt needs.
  pub wanted : ℕ

-- The number of bytes that were read after the last move.
abbrev pub unread_length : {R : Type 0} → WindowValue R → ℕ
unread_length window = length window.lexed + length window.after

-- A window on a stream of which nothing was read.
abbrev pub nothing_read : {R : Type 0} → Bool → R → ℕ → WindowValue R
nothing_read utf8 reader bound = record {
  reader = reader;
  utf8 = utf8;
  skipped = [];
  slice = [];
  lexed = [];
  after = [];
  is_last = false;
  is_over = false;
  offset = 0;
  bound = bound;
  wanted = 0;
}

-- Nothing after the last bytes is lexed: there is nothing, or, in a text, bytes that begin no
-- character, or an incomplete one.
abbrev pub HasEnded : Bool → Bool → List ℕ → Type 0
HasEnded utf8 is_over after = ((after ≡ []) × IsTrue is_over)
    ⊎ (IsTrue utf8 × ((at_fault : Bool) × IsNoText at_fault after × (IsTrue is_over ⊎ IsTrue at_fault)))

-- The invariant of a window whose part has these bytes: the offsets are in order, the lexable bytes
-- of a text are UTF-8, and nothing is lexed after the last bytes.
pub record IsWindow (utf8 : Bool) (part : List ℕ) (most : ℕ) (is_over : Bool) (before from at ready : ℕ) (is_last : Bool) (limit least : ℕ) : Type 0 where
  pub skipped : before ≤ from
  pub span : from ≤ at
  pub order : at ≤ ready
  pub within : ready ≤ length part
  pub text : IsTrue utf8 → IsUtf8 (slice_range part at ready)
  pub ended : IsTrue is_last → HasEnded utf8 is_over (drop ready part)
  pub bound : most ≡ limit
  pub wanted : least ≤ limit

-- A move without reading: the window moves within the bytes that it has.
pub record GoesPast {R : Type 0} (to : ℕ) (old new : WindowValue R) : Type 0 where
  pub utf8 : new.utf8 ≡ old.utf8
  pub reader : new.reader ≡ old.reader
  pub within : to ≤ length old.lexed
  pub passed : new.skipped ++ new.slice ≡ take to old.lexed
  pub lexed : new.lexed ≡ drop to old.lexed
  pub after : new.after ≡ old.after
  pub is_last : new.is_last ≡ old.is_last
  pub is_over : new.is_over ≡ old.is_over
  pub offset : old.offset + to < 2 ^ 64 → new.offset ≡ old.offset + to
  pub bound : new.bound ≡ old.bound

-- The bytes from the reader are appended, and more bytes become lexable; after the last ones
-- nothing is read.
pub record ReadsOn {R : Type 0} (remaining : R → Option (List ℕ)) (old new : WindowValue R) : Type 0 where
  pub utf8 : new.utf8 ≡ old.utf8
  pub offset : new.offset ≡ old.offset
  pub bound : new.bound ≡ old.bound
  pub added : List ℕ
  pub consumed : Consumes (remaining old.reader) (remaining new.reader) added
  pub bytes : new.lexed ++ new.after ≡ (old.lexed ++ old.after) ++ added
  -- The bytes by which the lexable bytes grow.
  pub grown : List ℕ
  pub lexed : new.lexed ≡ old.lexed ++ grown
  pub text : IsTrue new.utf8 → IsUtf8 grown
  pub last : IsTrue old.is_last → (grown ≡ []) × IsTrue new.is_last
  pub continues : IsFalse new.is_over → IsFalse old.is_last → 0 < length added
  pub over : IsTrue new.is_over → IsFalse old.is_last → IsAtEnd (remaining new.reader)
  pub ended : IsTrue new.is_over → IsTrue new.is_last
  pub wanted : new.wanted ≡ old.wanted

-- Nothing was read, and the remaining bytes of the reader are unchanged.
pub record StaysUnread {R : Type 0} (remaining : R → Option (List ℕ)) (old new : WindowValue R) : Type 0 where
  pub utf8 : new.utf8 ≡ old.utf8
  pub lexed : new.lexed ≡ old.lexed
  pub after : new.after ≡ old.after
  pub is_last : new.is_last ≡ old.is_last
  pub is_over : new.is_over ≡ old.is_over
  pub offset : new.offset ≡ old.offset
  pub bound : new.bound ≡ old.bound
  pub unread : Keeps (remaining old.reader) (remaining new.reader)
  pub wanted : new.wanted ≡ old.wanted
  -- The bytes that were passed are dropped.
  pub skipped : new.skipped ≡ []
  pub slice : new.slice ≡ []
