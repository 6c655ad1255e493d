-- The chunks that are made again, between those that stay.
use Rattle.std.specs.Prelude.{◌≡◌, ℕ, ◌+◌, ◌≤◌, List, ◌++◌, length, take, drop, map, IsTrue, IsUtf8}
use Rattle.logos_code.specs.Code.{CodeValue}
use Rattle.logos_code.specs.Items.{Callback}
use Rattle.logos_code.specs.Runs.{Runs}
use Rattle.logos_relex.specs.Chunks.{AreChunks, bytes_of, item_at}
use Rattle.logos_relex.specs.declared.anew.After.{After}
use Rattle.logos_relex.specs.declared.anew.After.TheVariants.{Former, Last}
use Rattle.logos_relex.specs.declared.anew.Anew.{Anew}
use Rattle.logos_relex.specs.declared.borders.Border.{Border}
use Rattle.logos_relex.specs.declared.chunk.Chunk.{Chunk}
use Rattle.logos_relex.specs.declared.lexed.Lexed.{Lexed}

-- The border is after its first `index` chunks, at the sum of their lengths.
pub record IsBorder (chunks : List Chunk) (border : Border) : Type 0 where
  pub within : border.index ≤ length chunks
  pub at : border.at ≡ bytes_of (take border.index chunks)

-- The former border `index` is met with the bytes `left` remaining: as many bytes of the former
-- input follow it, and it is not before the end of the replaced span.
pub record IsMet (former : Lexed) (replaced_to : ℕ) (left : List ℕ) (start index : ℕ) : Type 0 where
  pub later : start ≤ index
  pub within : index ≤ length former.chunks.items
  pub after : replaced_to ≤ bytes_of (take index former.chunks.items)
  pub left_is : bytes_of (take index former.chunks.items) + length left ≡ former.length

-- The chunks or the items after the new chunks.
abbrev pub Follows : CodeValue → Callback → Lexed → ℕ → List ℕ → ℕ → After → Type 0
Follows code callback former replaced_to left start (Former index) = IsMet former replaced_to left start index
Follows code callback former replaced_to left start (Last last) = Runs code callback left 0 (map (item_at left) last.items) × (IsTrue code.utf8 → IsUtf8 left)

-- `made` begins at the border `start`: its chunks are chunks of the input, and after them a former
-- border is met or the input ends.
pub record IsAnew (code : CodeValue) (callback : Callback) (former : Lexed) (replaced_to : ℕ) (input : List ℕ) (start : Border) (made : Anew) : Type 0 where
  pub left : List ℕ
  pub is_rest : (passed : List ℕ) × (drop start.at input ≡ passed ++ left)
  pub chunks_are : AreChunks code callback (drop start.at input) made.chunks.items left
  pub follows : Follows code callback former replaced_to left start.index made.after

-- The former chunks that the new ones replace exist.
abbrev pub ComesAfter : Lexed → ℕ → After → Type 0
ComesAfter former from (Former to) = (from ≤ to) × (to ≤ length former.chunks.items)
ComesAfter former from (Last last) = from ≤ length former.chunks.items

-- The chunks and the last items after the new chunks were put in.
abbrev pub EndsWith : Lexed → ℕ → After → List Chunk → Lexed → Type 0
EndsWith former from (Former to) chunks new = (new.chunks.items ≡ take from former.chunks.items ++ chunks ++ drop to former.chunks.items) × (new.last ≡ former.last)
EndsWith former from (Last last) chunks new = (new.chunks.items ≡ take from former.chunks.items ++ chunks) × (new.last ≡ last)

-- The new chunks replace those from index `from`, and the input has `length_now` bytes.
pub record PutsAnew (from : ℕ) (made : Anew) (length_now : ℕ) (old new : Lexed) : Type 0 where
  pub ends : EndsWith old from made.after made.chunks.items new
  pub length_is : new.length ≡ length_now
