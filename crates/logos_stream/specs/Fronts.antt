-- The first event in some bytes of an input.
use Rattle.std.specs.Prelude.{◌≡◌, ℕ, ◌<◌, ◌≤◌, Bool, true, false, List, [], ◌++◌, length, option_map, slice_range}
use Rattle.logos_automaton.specs.Munch.{Found}
use Rattle.logos_code.specs.Code.{CodeValue}
use Rattle.logos_code.specs.Items.{Callback, Item, token, error}
use Rattle.logos_code.specs.Runs.{Runs, RunsOn}
use Rattle.logos_machine.specs.Streams.{first_status, LooksPast, MayFollow, RunsOver, AttemptsWithin}
use Rattle.logos_stream.specs.declared.item.StreamItem.{StreamItem}
use Rattle.logos_stream.specs.declared.item.StreamItem.TheVariants.{Token, Error}
use Rattle.logos_stream.specs.declared.front.Front.{Front}
use Rattle.logos_stream.specs.declared.front.Front.TheVariants.{Item as First, Waits, Ends}

-- The start of the span of an item.
abbrev pub start_of : StreamItem → ℕ
start_of (Token leaf span) = span.from
start_of (Error leaf span) = span.from

-- The end of the span of an item.
abbrev pub end_of : StreamItem → ℕ
end_of (Token leaf span) = span.to
end_of (Error leaf span) = span.to

-- An item with the bytes at its span.
abbrev pub item_with : StreamItem → List ℕ → Item
item_with (Token leaf span) slice = token leaf.0 span.from span.to slice
item_with (Error leaf span) slice = error (option_map (λ l. l.0) leaf) span.from span.to slice

-- The item with the bytes at its span in `bytes`.
abbrev pub item_in : StreamItem → List ℕ → Item
item_in item bytes = item_with item (slice_range bytes (start_of item) (end_of item))

-- The stream item is the item without its bytes.
abbrev pub IsWithout : Item → StreamItem → Type 0
IsWithout (token leaf from to slice) (Token l span) = (leaf ≡ l.0) × (from ≡ span.from) × (to ≡ span.to)
IsWithout (error leaf from to slice) (Error l span) = (leaf ≡ option_map (λ l. l.0) l) × (from ≡ span.from) × (to ≡ span.to)
IsWithout (token leaf from to slice) (Error l span) = ⊥
IsWithout (error leaf from to slice) (Token l span) = ⊥

-- For a code, a callback, and bytes that are the last ones of an input or that more may follow.
module _ (code : CodeValue) (callback : Callback) (bytes : List ℕ) where
  -- `item` is the next item, found up to `to`: in the last bytes alone, in others whatever follows
  -- them.
  abbrev pub FindsUpTo : Bool → Item → ℕ → Type 0
  FindsUpTo true item to = RunsOn code callback bytes 0 item to
  FindsUpTo false item to = (more : List ℕ) → MayFollow code more → RunsOn code callback (bytes ++ more) 0 item to

  -- The first event is the item.
  pub record IsFirst (is_last : Bool) (item : StreamItem) : Type 0 where
    pub finds : FindsUpTo is_last (item_in item bytes) (end_of item)
    pub nonempty : start_of item < end_of item
    pub within : end_of item ≤ length bytes

  -- There is no item up to this offset, whatever follows, and the bytes end before the next match
  -- attempt is decided.
  pub record IsWaiting (is_last : Bool) (to : ℕ) : Type 0 where
    pub unsettled : is_last ≡ false
    pub within : to ≤ length bytes
    pub passed : (more : List ℕ) → MayFollow code more → RunsOver code callback (bytes ++ more) 0 to
    pub looks : LooksPast code bytes to (first_status code to)
    pub undecided : (found : Found) (n : ℕ) → AttemptsWithin code bytes to (length bytes) found n → ⊥

  -- No item is left, and nothing follows.
  pub record IsOver (is_last : Bool) : Type 0 where
    pub last : is_last ≡ true
    pub over : Runs code callback bytes 0 []

  abbrev pub IsFront : Bool → Front → Type 0
  IsFront is_last (First item) = IsFirst is_last item
  IsFront is_last (Waits to) = IsWaiting is_last to
  IsFront is_last Ends = IsOver is_last
