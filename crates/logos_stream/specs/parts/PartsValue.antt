-- The view of an input that is read in parts.
use Rattle.std.specs.Prelude.{◌≡◌, ℕ, ◌+◌, ◌-◌, ◌<◌, ◌≤◌, ◌^◌, min, Bool, List, [], ◌++◌, length, drop, slice_range, Option, MatchResult, IsTrue, IsFalse, Result}
use Rattle.std.specs.Io.KnownBytes.{Consumes, IsAtEnd, Keeps}

pub record PartsValue (R : Type 0) : Type 0 where
  pub reader : R
  -- The bytes that were read and not passed.
  pub part : List ℕ
  -- The greatest number of bytes in memory.
  pub bound : ℕ
  -- The number of bytes that were passed.
  pub before : ℕ
  pub is_over : Bool

-- The input after `bytes` more bytes were passed. Their count saturates at the greatest number.
abbrev pub without : {R : Type 0} → ℕ → PartsValue R → PartsValue R
without bytes old = record {
  reader = old.reader;
  part = drop bytes old.part;
  bound = old.bound;
  before = min (old.before + bytes) (2 ^ 64 - 1);
  is_over = old.is_over;
}

-- The bytes from the reader are appended to the part; none are appended only at the end.
pub record Reads {R : Type 0} (remaining : R → Option (List ℕ)) (old new : PartsValue R) : Type 0 where
  pub added : List ℕ
  pub part : new.part ≡ old.part ++ added
  pub consumed : Consumes (remaining old.reader) (remaining new.reader) added
  pub bound : new.bound ≡ old.bound
  pub before : new.before ≡ old.before
  pub continues : IsFalse new.is_over → 0 < length added
  pub over : IsTrue new.is_over → (added ≡ []) × IsAtEnd (remaining new.reader)

-- Nothing is read, and the remaining bytes of the reader are unchanged.
pub record Stays {R : Type 0} (remaining : R → Option (List ℕ)) (old new : PartsValue R) : Type 0 where
  pub part : new.part ≡ old.part
  pub bound : new.bound ≡ old.bound
  pub before : new.before ≡ old.before
  pub is_over : new.is_over ≡ old.is_over
  pub unread : Keeps (remaining old.reader) (remaining new.reader)

-- `n` bytes are read into a buffer, after its first `held` bytes.
abbrev pub ReadsAfter : {R E : Type 0} → (R → Option (List ℕ)) → R → R → ℕ → Result ℕ E → List ℕ → Type 0
ReadsAfter remaining old new held result buffer = MatchResult result
    (λ n. (held + n ≤ length buffer) × Consumes (remaining old) (remaining new) (slice_range buffer held (held + n)) × (n ≡ 0 → IsAtEnd (remaining new)))
    (λ _. Keeps (remaining old) (remaining new))
