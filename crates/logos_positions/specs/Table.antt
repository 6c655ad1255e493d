-- The table of a reader.
use Rattle.std.specs.Prelude.{◌≡◌, ℕ, zero, suc, ◌+◌, ◌-◌, min, drop, ◌*◌, ◌/◌, ◌%◌, ◌<◌, ◌≤◌, Bool, true, false, ◌&&◌, if◌then◌else◌, nat_lt, nat_le, List, Option, Some, None, slice_get, slice_index_or}
use Rattle.std.specs.List.{sum_by}
use Rattle.std.specs.Option.{MatchOption}
use Rattle.logos_positions.specs.inside.Characters.{size, Lead, after_lead, after_byte, IsOpen}
use Rattle.logos_positions.specs.Core.{Reader}
use Rattle.logos_positions.specs.inside.Reader.{IsShut, Remainder}
use Rattle.logos_positions.specs.inside.Ranges.{in_ranges}
use Rattle.logos_positions.specs.declared.characters.ranges.CharRange.{CharRange}
use Rattle.logos_positions.specs.declared.characters.builder.Block.{Block}
use Rattle.logos_positions.specs.declared.characters.builder.CharacterRest.{CharacterRest}
use Rattle.logos_positions.specs.declared.characters.reader.CharacterTable.{CharacterTable}

-- The meaning of a row.
pub record Row : Type 0 where
  pub left : ℕ
  pub offsets : List CharRange

-- The meaning of a stored row.
abbrev pub row_of : CharacterRest → Row
row_of r = record { left = r.left; offsets = r.offsets.items }

-- Row `i` is `r`.
pub record IsAt (ks : List CharacterRest) (i : ℕ) (r : Row) : Type 0 where
  pub key : CharacterRest
  pub is : slice_get ks i ≡ Some key
  pub same : row_of key ≡ r

-- Rows are added, and the existing rows keep their numbers.
pub record Grows (old new : List CharacterRest) : Type 0 where
  pub keeps : (i : ℕ) (r : Row) → IsAt old i r → IsAt new i r

-- Row 0 is the end, and is the only row without a remaining byte.
pub record AreRests (ks : List CharacterRest) : Type 0 where
  pub small : (i : ℕ) (r : Row) → IsAt ks i r → r.left ≤ 3
  pub whole : (i : ℕ) (r : Row) → IsAt ks i r → r.left ≡ 0 → i ≡ 0
  pub end : (r : Row) × IsAt ks 0 r × (r.left ≡ 0) × (in_ranges r.offsets 0 ≡ true)

-- If there is an offset, row `i` has the remaining offsets; otherwise there is no row.
pub record IsRowFor (ks : List CharacterRest) (n : ℕ) (has : ℕ → Bool) (i : ℕ) : Type 0 where
  pub row : Row
  pub at : IsAt ks i row
  pub left : row.left ≡ n
  pub same : (o : ℕ) → o < size n → in_ranges row.offsets o ≡ has o
  pub some : IsOpen n has

-- The row that has the remaining offsets, or none if no offset remains.
abbrev pub Finds : List CharacterRest → ℕ → (ℕ → Bool) → Option ℕ → Type 0
Finds ks n has to = MatchOption to (IsShut n has) (IsRowFor ks n has)

-- The target of a first byte.
abbrev pub FindsFirst : List CharacterRest → (ℕ → Bool) → Option Lead → Option ℕ → Type 0
FindsFirst ks c None to = to ≡ None
FindsFirst ks c (Some by) to = Finds ks by.left (after_lead c by) to

-- The target of a continuation byte `b`.
abbrev pub FindsNext : List CharacterRest → Row → ℕ → ℕ → Option ℕ → Type 0
FindsNext ks r zero b to = to ≡ None
FindsNext ks r (suc n) b to = Finds ks n (after_byte n (in_ranges r.offsets) b) to

-- Cell `j` has the target of its row and byte.
pub record IsCell (ks : List CharacterRest) (cells : List (Option ℕ)) (j : ℕ) : Type 0 where
  pub row : Row
  pub at : IsAt ks (j / 64) row
  pub next : FindsNext ks row row.left (0x80 + j % 64) (slice_index_or cells j None)

-- The meaning of a block.
abbrev pub lead_of : Block → Lead
lead_of b = record { left = b.left; start = b.start; floor = b.floor }

-- An upper bound on the number of rows that can be reached from a row with this number of remaining
-- bytes.
abbrev pub led_to : ℕ → ℕ
led_to zero = 0
led_to (suc n) = 1 + 64 * led_to n

-- An upper bound for the rows from the `n`-th on, including those that have not been added yet.
abbrev pub weight : ℕ → List CharacterRest → ℕ
weight n ks = sum_by (λ r. 1 + 64 * led_to (r.left - 1)) (drop n ks)

-- An upper bound for all first bytes below `b`.
abbrev pub first_weight : ℕ → ℕ
first_weight b = (min b 0xE0 - 0xC0) + 65 * (min b 0xF0 - 0xE0) + 4161 * (min b 0xF8 - 0xF0)

-- The remainder of a character that a row represents, or an empty one if there is no row.
abbrev pub rest_at : Option CharacterRest → Remainder
rest_at None = record { left = 0; has = λ o. false }
rest_at (Some k) = record { left = k.left; has = in_ranges k.offsets.items }

-- The remainder of a character at row `q`.
abbrev pub rest_of : List CharacterRest → ℕ → Remainder
rest_of ks q = rest_at (slice_get ks q)

-- The reader with these cells.
abbrev pub reader_from : ℕ → List (Option ℕ) → List (Option ℕ) → Reader
reader_from rows first follow = record {
  others = rows - 1;
  first = λ b. slice_index_or first b None;
  follow = λ q b. if nat_le 0x80 b && nat_lt b 0xC0 then slice_index_or follow (q * 64 + (b - 0x80)) None else None;
}

-- The reader of a table.
abbrev pub reader_of : CharacterTable → Reader
reader_of t = reader_from t.rows t.first.items t.follow.items
