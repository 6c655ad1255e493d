-- All remaining items of a stream.
use Rattle.std.specs.Prelude.{◌≡◌, ◌⊎◌, ℕ, ◌<◌, ◌^◌, Bool, true, false, List, [], ◌++◌, length, map, Option, IfSome, IsTrue, IsFalse, option_map}
use Rattle.std.specs.Io.KnownBytes.{Consumes}
use Rattle.logos_code.specs.Code.{CodeValue}
use Rattle.logos_code.specs.Headline.{IsSound}
use Rattle.logos_code.specs.Items.{Callback, Item, token, error}
use Rattle.logos_code.specs.Runs.{Runs}
use Rattle.logos_hir.specs.declared.leaf.LeafId.{LeafId}
use Rattle.logos_stream.specs.Nexts.{FinishesNext}
use Rattle.logos_stream.specs.Wholes.{HasGiven}
use Rattle.logos_stream.specs.WindowValue.{ReadsOn, StaysUnread, WindowValue, nothing_read}
use Rattle.logos_stream.specs.declared.item.StreamItem.{StreamItem}
use Rattle.logos_stream.specs.declared.item.StreamItem.TheVariants.{Token, Error}

-- The leaf with this number.
abbrev pub leaf_of : ℕ → LeafId
leaf_of leaf = record { 0 = leaf }

-- An item without its bytes.
abbrev pub placed : Item → StreamItem
placed (token leaf from to slice) = Token (leaf_of leaf) (record { from = from; to = to })
placed (error leaf from to slice) = Error (option_map leaf_of leaf) (record { from = from; to = to })

-- Bytes are read; or none are, and the remaining bytes of the reader are unchanged.
abbrev pub MayRead : {R : Type 0} → (R → Option (List ℕ)) → WindowValue R → WindowValue R → Type 0
MayRead remaining old new = ReadsOn remaining old new ⊎ StaysUnread remaining old new

module _ {R : Type 0} (remaining : R → Option (List ℕ)) (code : CodeValue) (callback : Callback) where
  -- A stream continues: it reads, passes bytes, and returns the items `found`.
  pub record Continues (old new : WindowValue R) (found : List Item) : Type 0 where
    pub added : List ℕ
    pub consumed : Consumes (remaining old.reader) (remaining new.reader) added
    pub passed : List ℕ
    pub bytes : (old.lexed ++ old.after) ++ added ≡ passed ++ (new.lexed ++ new.after)
    pub all : IsFalse old.is_over → IsTrue new.is_over → IfSome (remaining old.reader) (λ bytes. added ≡ bytes)
    pub given : IsSound code → (before : List ℕ) (items : List Item) → HasGiven code callback before old items →
        HasGiven code callback (before ++ passed) new (items ++ found)

  -- The stream continues, and its items are appended to a list; or it has ended, and the list stays
  -- unchanged.
  abbrev pub Steps : WindowValue R → WindowValue R → List StreamItem → List StreamItem → Bool → Type 0
  Steps old new former items false = (found : List Item) × Continues old new found × (items ≡ former ++ map placed found)
  Steps old new former items true = FinishesNext code callback old new × (new.after ≡ []) × IsTrue new.is_over × (items ≡ former)

  -- All remaining items: together with those returned before, they are the items of a run of the
  -- code on all bytes up to the end.
  pub record AreLeft (window : WindowValue R) (items : List StreamItem) : Type 0 where
    -- The bytes that were not read yet.
    pub unread : List ℕ
    pub all : IsFalse window.is_over → IfSome (remaining window.reader) (λ bytes. unread ≡ bytes)
    -- The items with their bytes.
    pub found : List Item
    pub placed_are : items ≡ map placed found
    pub run : IsSound code → (before : List ℕ) (given : List Item) → HasGiven code callback before window given →
        length (before ++ ((window.lexed ++ window.after) ++ unread)) < 2 ^ 64 →
        Runs code callback (before ++ ((window.lexed ++ window.after) ++ unread)) 0 (given ++ found)

-- All items of a stream of which nothing was read are those of a run on all bytes of its reader.
abbrev pub AllAreOfTheWhole : {R : Type 0} → (R → Option (List ℕ)) → Callback → Type 0
AllAreOfTheWhole {R} remaining callback = (code : CodeValue) (reader : R) (bound : ℕ) (items : List StreamItem) → IsSound code →
    AreLeft remaining code callback (nothing_read code.utf8 reader bound) items →
    IfSome (remaining reader) (λ bytes. length bytes < 2 ^ 64 → (found : List Item) × (items ≡ map placed found) × Runs code callback bytes 0 found)
