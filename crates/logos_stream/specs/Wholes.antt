-- The items of a stream are those of all bytes that were read.
use Rattle.std.specs.Prelude.{◌≡◌, ℕ, ◌<◌, ◌^◌, Bool, true, false, List, [], ◌∷◌, ◌++◌, length, Option}
use Rattle.logos_code.specs.Code.{CodeValue}
use Rattle.logos_code.specs.Headline.{IsSound}
use Rattle.logos_code.specs.Items.{Callback, Item}
use Rattle.logos_code.specs.Runs.{Runs}
use Rattle.logos_machine.specs.Streams.{AreBegun}
use Rattle.logos_stream.specs.Fronts.{item_with}
use Rattle.logos_stream.specs.Nexts.{FinishesNext, YieldsNext, WaitsNext}
use Rattle.logos_stream.specs.WindowValue.{ReadsOn, WindowValue, nothing_read}
use Rattle.logos_stream.specs.declared.item.StreamItem.{StreamItem}

-- `items` are the items of `bytes` up to `to`: together with the items of a run from `to`, they are
-- the items of a run from the first byte. If the bytes are the last ones, this holds for them,
-- otherwise for every continuation of them.
abbrev pub AreFound : Bool → CodeValue → Callback → List ℕ → List Item → ℕ → Type 0
AreFound true code callback bytes items to = (later : List Item) → Runs code callback bytes to later → Runs code callback bytes 0 (items ++ later)
AreFound false code callback bytes items to = AreBegun code callback bytes items to

-- A stream has passed these bytes and returned these items. Its offsets are exact while they are
-- below the greatest number.
pub record HasGiven {R : Type 0} (code : CodeValue) (callback : Callback) (passed : List ℕ) (window : WindowValue R) (items : List Item) : Type 0 where
  pub mode : window.utf8 ≡ code.utf8
  pub offset : length passed < 2 ^ 64 → window.offset ≡ length passed
  pub found : length passed < 2 ^ 64 → AreFound window.is_last code callback (passed ++ window.lexed) items (length passed)

-- From call to call, the items that the stream has returned are those of a run of the code on all
-- of the bytes. At the end these are all bytes that were read, or, in a text, those before the
-- first that is not UTF-8.
pub record StreamsAreOfTheWhole {R : Type 0} (remaining : R → Option (List ℕ)) (callback : Callback) : Type 0 where
  pub begins : (code : CodeValue) (reader : R) (bound : ℕ) → HasGiven code callback [] (nothing_read code.utf8 reader bound) []
  pub reads : (code : CodeValue) (passed : List ℕ) (old new : WindowValue R) (items : List Item) →
      HasGiven code callback passed old items → ReadsOn remaining old new → HasGiven code callback passed new items
  pub yields : (code : CodeValue) (passed : List ℕ) (old new : WindowValue R) (items : List Item) (item : StreamItem) → IsSound code →
      HasGiven code callback passed old items → YieldsNext code callback old new item →
      HasGiven code callback (passed ++ (new.skipped ++ new.slice)) new (items ++ item_with item new.slice ∷ [])
  pub waits : (code : CodeValue) (passed : List ℕ) (old new : WindowValue R) (items : List Item) → IsSound code →
      HasGiven code callback passed old items → WaitsNext code callback old new →
      HasGiven code callback (passed ++ (new.skipped ++ new.slice)) new items
  pub ends : (code : CodeValue) (passed : List ℕ) (old new : WindowValue R) (items : List Item) → IsSound code → length passed < 2 ^ 64 →
      HasGiven code callback passed old items → FinishesNext code callback old new →
      Runs code callback (passed ++ (new.skipped ++ new.slice)) 0 items
