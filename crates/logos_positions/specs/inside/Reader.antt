-- The reader of a character of a class.
use Rattle.std.specs.Prelude.{◌≡◌, ℕ, suc, ◌<◌, ◌≤◌, ◌⊎◌, Bool, true, false, ◌&&◌, List, [], ◌∷◌, Option, Some, None, slice_get}
use Rattle.std.specs.Char.{encode_utf8, IsScalar}
use Rattle.std.specs.Option.{MatchOption}
use lib.Utf8.{scalar}
use Rattle.logos_hir.specs.ByteRanges.{is_in}
use Rattle.logos_positions.specs.Core.{Reader}
use Rattle.logos_positions.specs.inside.Characters.{size, Lead, lead, after_lead, after_byte, IsOpen, IsBeginningOf}

-- The characters of the ranges.
abbrev pub is_char_in : List (ℕ × ℕ) → ℕ → Bool
is_char_in ranges c = scalar c && is_in ranges c

-- The bytes of a list are at `i` to `j`.
abbrev pub Spells : List ℕ → List ℕ → ℕ → ℕ → Type 0
Spells bytes [] i j = j ≡ i
Spells bytes (b ∷ bs) i j = (slice_get bytes i ≡ Some b) × Spells bytes bs (suc i) j

-- A character of the class is at `i` to `j`.
pub record IsCharAt (c : ℕ → Bool) (bytes : List ℕ) (i j : ℕ) : Type 0 where
  pub char : ℕ
  pub scalar : IsScalar char
  pub within : c char ≡ true
  pub spelled : Spells bytes (encode_utf8 char) i j

-- A prefix of a character of the class, but not the whole character, is at `i` to `j`.
pub record IsBegunAt (c : ℕ → Bool) (bytes : List ℕ) (i j : ℕ) : Type 0 where
  pub read : List ℕ
  pub beginning : IsBeginningOf c read
  pub spelled : Spells bytes read i j

-- The remainder of a character.
pub record Remainder : Type 0 where
  pub left : ℕ
  pub has : ℕ → Bool

-- The offsets are equal.
abbrev pub Same : ℕ → (ℕ → Bool) → (ℕ → Bool) → Type 0
Same n f g = (o : ℕ) → o < size n → f o ≡ g o

-- The remainder has `n` bytes and these offsets, of which there is at least one.
pub record IsRest (r : Remainder) (n : ℕ) (f : ℕ → Bool) : Type 0 where
  pub left : r.left ≡ n
  pub same : Same n r.has f
  pub some : IsOpen n f

-- No offset remains.
abbrev pub IsShut : ℕ → (ℕ → Bool) → Type 0
IsShut n f = (o : ℕ) → o < size n → f o ≡ false

-- The position to which the byte leads, if there is one, is the position of this remainder.
abbrev pub LeadsTo : (ℕ → Remainder) → ℕ → ℕ → (ℕ → Bool) → Option ℕ → Type 0
LeadsTo rest others n f to = MatchOption to (IsShut n f) (λ q. (q ≤ others) × IsRest (rest q) n f)

-- The reader reads exactly the characters of the class.
pub record IsReaderOf (c : ℕ → Bool) (l : Reader) : Type 0 where
  pub rest : ℕ → Remainder
  pub small : (q : ℕ) → q ≤ l.others → (rest q).left ≤ 3
  pub whole : (q : ℕ) → q ≤ l.others → (rest q).left ≡ 0 → q ≡ 0
  pub end : (rest 0).left ≡ 0
  pub first : (b : ℕ) (by : Lead) → lead b ≡ Some by → LeadsTo rest l.others by.left (after_lead c by) (l.first b)
  pub no_first : (b : ℕ) → lead b ≡ None → l.first b ≡ None
  pub follow : (q n b : ℕ) → q ≤ l.others → (rest q).left ≡ suc n → 0x80 ≤ b → b < 0xC0 →
      LeadsTo rest l.others n (after_byte n (rest q).has b) (l.follow q b)
  pub no_follow : (q b : ℕ) → q ≤ l.others → (b < 0x80) ⊎ (0xC0 ≤ b) → l.follow q b ≡ None
  pub past : (q b : ℕ) → q ≤ l.others → (rest q).left ≡ 0 → l.follow q b ≡ None
