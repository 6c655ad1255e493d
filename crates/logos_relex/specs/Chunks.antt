-- Items without their bytes, and chunks of them.
use Rattle.std.specs.Prelude.{◌≡◌, ℕ, ◌+◌, ◌-◌, ◌<◌, ◌≤◌, List, [], ◌∷◌, ◌++◌, length, take, drop, map, slice_range, option_map, IsTrue, IsUtf8}
use Rattle.logos_code.specs.Code.{CodeValue}
use Rattle.logos_code.specs.Items.{Callback, Item, token, error}
use Rattle.logos_machine.specs.Streams.{AreBegun}
use Rattle.logos_machine.specs.declared.machine.Item.{Item as TheItem}
use Rattle.logos_machine.specs.declared.machine.Item.TheVariants as found
use Rattle.logos_relex.specs.declared.chunk.ItemAt.{ItemAt}
use Rattle.logos_relex.specs.declared.chunk.ItemAt.TheVariants.{Token, Error}
use Rattle.logos_relex.specs.declared.chunk.Chunk.{Chunk}

-- The item in these bytes that is stored as an `ItemAt`.
abbrev pub item_at : List ℕ → ItemAt → Item
item_at bytes (Token leaf span) = token leaf.0 span.from span.to (slice_range bytes span.from span.to)
item_at bytes (Error leaf span) = error (option_map (λ l. l.0) leaf) span.from span.to (slice_range bytes span.from span.to)

-- An item without its bytes, as it is stored.
abbrev pub offset_of : TheItem → ItemAt
offset_of (found.Token leaf span slice) = Token leaf span
offset_of (found.Error leaf span slice) = Error leaf span

-- The item with its span moved by `far` bytes.
abbrev pub moved : ℕ → ItemAt → ItemAt
moved far (Token leaf span) = Token leaf (record { from = far + span.from; to = far + span.to })
moved far (Error leaf span) = Error leaf (record { from = far + span.from; to = far + span.to })

-- The start and the end of an item's span.
abbrev pub from_of : ItemAt → ℕ
from_of (Token leaf span) = span.from
from_of (Error leaf span) = span.from

abbrev pub to_of : ItemAt → ℕ
to_of (Token leaf span) = span.to
to_of (Error leaf span) = span.to

-- The items are nonempty, and end at or before `end`.
abbrev pub EndBy : ℕ → List ItemAt → Type 0
EndBy end [] = Unit {0}
EndBy end (item ∷ items) = (from_of item < to_of item) × (to_of item ≤ end) × EndBy end items

-- The number of bytes of the chunks.
abbrev pub bytes_of : List Chunk → ℕ
bytes_of [] = 0
bytes_of (chunk ∷ chunks) = chunk.length + bytes_of chunks

-- The items of the chunks and those after them, with spans that count from the first byte of the
-- first chunk.
abbrev pub all_items : List Chunk → List ItemAt → List ItemAt
all_items [] last = last
all_items (chunk ∷ chunks) last = chunk.items.items ++ map (moved chunk.length) (all_items chunks last)

module _ (code : CodeValue) (callback : Callback) where
  -- The chunk is at the front of the bytes: its items are those of its window, which is a prefix of
  -- the bytes, whatever follows the window.
  pub record IsChunk (bytes : List ℕ) (chunk : Chunk) : Type 0 where
    pub nonempty : 0 < chunk.length
    pub fits : chunk.length ≤ chunk.window
    pub within : chunk.window ≤ length bytes
    pub spans : EndBy chunk.length chunk.items.items
    pub begun : AreBegun code callback (take chunk.window bytes) (map (item_at (take chunk.window bytes)) chunk.items.items) chunk.length
    pub text : IsTrue code.utf8 → IsUtf8 (take chunk.window bytes)

  -- The chunks are at the front of the bytes, one after another, and `rest` follows them.
  abbrev pub AreChunks : List ℕ → List Chunk → List ℕ → Type 0
  AreChunks bytes [] rest = bytes ≡ rest
  AreChunks bytes (chunk ∷ chunks) rest = IsChunk bytes chunk × AreChunks (drop chunk.length bytes) chunks rest

  -- In a part, these items were found up to `to`, whatever follows the part.
  pub record SettlesUpTo (part : List ℕ) (items : List ItemAt) (to : ℕ) : Type 0 where
    pub within : to ≤ length part
    pub spans : EndBy to items
    pub begun : AreBegun code callback part (map (item_at part) items) to

-- The chunks examine only the first `limit` bytes.
abbrev pub LookBelow : ℕ → List Chunk → Type 0
LookBelow limit [] = Unit {0}
LookBelow limit (chunk ∷ chunks) = (chunk.window ≤ limit) × (chunk.length ≤ limit) × LookBelow (limit - chunk.length) chunks
