-- The next event of a stream.
use Rattle.std.specs.Prelude.{◌≡◌, ◌⊎◌, ℕ, ◌<◌, ◌≤◌, true, false, List, [], ◌++◌, length, IsTrue}
use Rattle.logos_automaton.specs.Munch.{Found}
use Rattle.logos_code.specs.Code.{CodeValue}
use Rattle.logos_code.specs.Items.{Callback, Item}
use Rattle.logos_code.specs.Runs.{Runs}
use Rattle.logos_machine.specs.Streams.{first_status, LooksPast, MayFollow, RunsOver, AttemptsWithin}
use Rattle.logos_stream.specs.Fronts.{FindsUpTo, IsFirst}
use Rattle.logos_stream.specs.Moves.{IsStuck, IsTorn, Shows, WaitsAt}
use Rattle.logos_stream.specs.WindowValue.{WindowValue, GoesPast, unread_length}
use Rattle.logos_stream.specs.declared.item.StreamItem.{StreamItem}
use Rattle.logos_stream.specs.declared.item.Streamed.{Streamed}
use Rattle.logos_stream.specs.declared.item.Streamed.TheVariants.{Item as Given, More, TooLong, NotUtf8, End}

-- The match attempt at the offset is undecided at the end of the bytes: its outcome depends on the
-- bytes that follow.
pub record IsUndecided (code : CodeValue) (bytes : List ℕ) (offset : ℕ) : Type 0 where
  pub looks : LooksPast code bytes offset (first_status code offset)
  pub undecided : (found : Found) (n : ℕ) → AttemptsWithin code bytes offset (length bytes) found n → ⊥

module _ {R : Type 0} (code : CodeValue) (callback : Callback) (old new : WindowValue R) where
  -- The next item was returned, with its span in the stream. It is the next one whatever follows
  -- the lexable bytes, unless they are the last ones.
  pub record YieldsNext (item : StreamItem) : Type 0 where
    -- The item with its span in these bytes.
    pub found : StreamItem
    pub first : IsFirst code callback old.lexed old.is_last found
    pub shows : Shows old new found item

  -- No item is returned, since the next event depends on bytes that were not read.
  pub record WaitsNext : Type 0 where
    -- The number of bytes that were passed, which have no item whatever follows.
    pub passed : ℕ
    pub waits : WaitsAt old new passed
    pub unsettled : old.is_last ≡ false
    pub over : (more : List ℕ) → MayFollow code more → RunsOver code callback (old.lexed ++ more) 0 passed
    -- The next match attempt is undecided at the end of the bytes; or none was made, since fewer
    -- bytes were read than it needs.
    pub why : IsUndecided code old.lexed passed ⊎ (unread_length old < old.wanted)

  -- No item is left, and the last bytes were passed.
  pub record FinishesNext : Type 0 where
    pub last : old.is_last ≡ true
    pub over : Runs code callback old.lexed 0 []
    pub past : GoesPast (length old.lexed) old new

  -- The next item would end inside a character, and nothing is passed. The items of a code that
  -- `generate` returns end between characters; no law derives from this that the case cannot occur.
  pub record Splits : Type 0 where
    pub to : ℕ
    pub why : ((item : Item) × FindsUpTo code callback old.lexed old.is_last item to) ⊎ ((more : List ℕ) → MayFollow code more → RunsOver code callback (old.lexed ++ more) 0 to)
    pub stuck : IsStuck old new to

  -- The effect of a call of `next`.
  abbrev pub DoesNext : Streamed → Type 0
  DoesNext (Given item) = YieldsNext item
  DoesNext More = WaitsNext × (unread_length new < new.bound)
  DoesNext TooLong = WaitsNext × (new.bound ≤ unread_length new)
  DoesNext NotUtf8 = (FinishesNext × IsTorn new) ⊎ Splits
  DoesNext End = FinishesNext × (new.after ≡ []) × IsTrue new.is_over
