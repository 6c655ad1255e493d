-- The moves of the window of a stream.
use Rattle.std.specs.Prelude.{◌≡◌, ◌⊎◌, ℕ, ◌+◌, ◌*◌, ◌<◌, ◌≤◌, ◌^◌, Bool, List, [], length, IsTrue, IsCharBoundary}
use Rattle.logos_machine.specs.Streams.{item_later}
use Rattle.logos_stream.specs.Fronts.{end_of, item_in, item_with}
use Rattle.logos_stream.specs.Tails.{IsNoText}
use Rattle.logos_stream.specs.WindowValue.{WindowValue, GoesPast, unread_length}
use Rattle.logos_stream.specs.declared.item.StreamItem.{StreamItem}
use Rattle.logos_stream.specs.declared.item.Streamed.{Streamed}
use Rattle.logos_stream.specs.declared.item.Streamed.TheVariants.{Item as Given, More, TooLong, NotUtf8, End}

-- The offset is inside a character of a text.
abbrev pub IsInside : Bool → List ℕ → ℕ → Type 0
IsInside utf8 bytes to = IsTrue utf8 × ¬ IsCharBoundary bytes to

-- In a text, the bytes after the lexable ones begin no character, or are an incomplete one.
pub record IsTorn {R : Type 0} (window : WindowValue R) : Type 0 where
  pub at_fault : Bool
  pub none : IsNoText at_fault window.after
  pub why : IsTrue window.is_over ⊎ IsTrue at_fault

-- The window moves past an item, which is returned with its span in the stream. The next match
-- attempt is not delayed.
pub record Shows {R : Type 0} (old new : WindowValue R) (found item : StreamItem) : Type 0 where
  pub past : GoesPast (end_of found) old new
  pub wanted : new.wanted ≡ 0
  pub shown : old.offset + end_of found < 2 ^ 64 → item_with item new.slice ≡ item_later old.offset (item_in found old.lexed)

-- A match attempt that has left `unread` bytes is repeated once there are `wanted`: at the next
-- byte if at most 4,096 were left, otherwise at the latest when there are twice as many.
pub record IsPutOff (unread wanted : ℕ) : Type 0 where
  pub short : unread ≤ 4096 → wanted ≡ 0
  pub twice : wanted ≤ 2 * unread

-- The window waits after the first `to` bytes. The next match attempt is delayed no longer than
-- before, or as the number of remaining bytes requires.
pub record WaitsAt {R : Type 0} (old new : WindowValue R) (to : ℕ) : Type 0 where
  pub past : GoesPast to old new
  pub wanted : (new.wanted ≡ old.wanted) ⊎ IsPutOff (unread_length new) new.wanted

module _ {R : Type 0} (old new : WindowValue R) where
  -- Nothing is passed, since the end of the passed bytes would be inside a character.
  abbrev pub IsStuck : ℕ → Type 0
  IsStuck to = IsInside old.utf8 old.lexed to × GoesPast 0 old new

  -- The event after an item was found.
  abbrev pub Yields : StreamItem → Streamed → Type 0
  Yields found (Given item) = Shows old new found item
  Yields found NotUtf8 = IsStuck (end_of found)
  Yields found other = ⊥

  -- The event if no item is found in the first `to` bytes.
  abbrev pub Waits : ℕ → Streamed → Type 0
  Waits to More = WaitsAt old new to × (unread_length new < new.bound)
  Waits to TooLong = WaitsAt old new to × (new.bound ≤ unread_length new)
  Waits to NotUtf8 = IsStuck to
  Waits to other = ⊥

  -- The event if the lexable bytes have no further item.
  abbrev pub Finishes : Streamed → Type 0
  Finishes NotUtf8 = GoesPast (length old.lexed) old new × IsTorn new
  Finishes End = GoesPast (length old.lexed) old new × (new.after ≡ []) × IsTrue new.is_over
  Finishes other = ⊥
