-- Characters at offsets of a text, and the offsets after them.
use Rattle.std.proofs.Common.{◌≡◌, ℕ, ◌+◌, ◌<◌, ◌≤◌, List, [], ◌∷◌, ◌++◌, length, length-drop, get_or, drop, refl, sym, ap, arith, inl, inr, suc, IsUtf8, encode_utf8}
use Rattle.std.proofs.lemmas.Str.{IsUtf8-drop, IsCharBoundary-past_char, IsCharBoundary-after_ascii, IsCharBoundary-before_ascii, chars_past_char, chars-nil, len_utf8_ascii, len_utf8_bounds}
use Rattle.std.specs.Str.{IsCharBoundary, encode_utf8_all, chars as chars_of, chars_after}
use Rattle.std.proofs.Math.Seq.{drop-cons}
use Rattle.std.proofs.lemmas.List.{drop_all, get_or_past}
use Rattle.std.proofs.lemmas.Bool.{cases_lt, lt-ltb}
use Rattle.logos_lexeme.specs.LexemeCharacters.{character, past}

from_codes : (cs bytes : List ℕ) → encode_utf8_all cs ≡ bytes → 0 < length bytes → (c : ℕ) × (rest : List ℕ) × (bytes ≡ encode_utf8 c ++ rest)
from_codes [] bytes e inside = absurd (let k = ap length e in omega arith)
from_codes (c ∷ cs) bytes e inside = (c, encode_utf8_all cs, sym e)

-- a text that is not empty begins with a character
pub first_char : (bytes : List ℕ) → IsUtf8 bytes → 0 < length bytes → (c : ℕ) × (rest : List ℕ) × (bytes ≡ encode_utf8 c ++ rest)
first_char bytes utf8 inside = from_codes utf8.0 bytes utf8.1.1 inside

character-next : (bytes rest : List ℕ) (at c : ℕ) → IsUtf8 bytes → IsCharBoundary bytes at → drop at bytes ≡ encode_utf8 c ++ rest → character bytes at ≡ c
unfolding character
character-next bytes rest at c utf8 boundary e = ap (λ (cs : List ℕ). get_or cs 0 0) (chars_past_char (drop at bytes) rest c (IsUtf8-drop bytes at utf8 boundary) e)

pub past-boundary : (bytes : List ℕ) (at : ℕ) → IsUtf8 bytes → IsCharBoundary bytes at → at < length bytes → IsCharBoundary bytes (past bytes at)
past-boundary bytes at utf8 boundary inside =
    let rest = IsUtf8-drop bytes at utf8 boundary in
    let first = first_char (drop at bytes) rest (omega (arith, length-drop at bytes)) in
    rw (character-next bytes first.1 at first.0 utf8 boundary first.2) (IsCharBoundary-past_char bytes first.1 at first.0 (omega arith) rest first.2)

head-after : (c : ℕ) (bytes : List ℕ) → get_or (chars_after 0 c bytes) 0 0 ≡ c
head-after c [] = refl
head-after c (b ∷ bs) = refl

head-ascii : (b : ℕ) (bytes : List ℕ) → b < 128 → get_or (chars_of (b ∷ bytes)) 0 0 ≡ b
unfolding chars_of
head-ascii b bytes h = let e = lt-ltb b 128 h in rw e (head-after b bytes)

-- an ASCII byte is a character
pub character-ascii : (bytes : List ℕ) (at : ℕ) → get_or bytes at 0 < 128 → character bytes at ≡ get_or bytes at 0
unfolding character
character-ascii bytes at h = elim (cases_lt at (length bytes)) [
  | inl l ↦ rw (drop-cons bytes at 0) (head-ascii (get_or bytes at 0) (drop (suc at) bytes) h)
  | inr l ↦ rw (drop_all at bytes l, get_or_past bytes at 0 l, chars-nil) refl
]

pub past-ascii : (bytes : List ℕ) (at : ℕ) → get_or bytes at 0 < 128 → past bytes at ≡ at + 1
past-ascii bytes at h = rw (character-ascii bytes at h) (ap (λ n. at + n) (len_utf8_ascii (get_or bytes at 0) h))

-- there is no character at the end
pub character-end : (bytes : List ℕ) (at : ℕ) → length bytes ≤ at → character bytes at ≡ 0
unfolding character
character-end bytes at l = rw (drop_all at bytes l, chars-nil) refl

pub past-moves : (bytes : List ℕ) (at : ℕ) → at < past bytes at
past-moves bytes at = omega (arith, (len_utf8_bounds (character bytes at)).0)

-- a byte that is not 0 is inside
pub inside_from_byte : (bytes : List ℕ) (at : ℕ) → 0 < get_or bytes at 0 → at < length bytes
inside_from_byte bytes at h = elim (cases_lt at (length bytes)) [ inl l ↦ l | inr l ↦ absurd (omega (arith, get_or_past bytes at 0 l)) ]

-- a character ends after an ASCII byte, and begins before one
pub boundary-after : (bytes : List ℕ) → IsUtf8 bytes → (at to : ℕ) → 0 < get_or bytes at 0 → get_or bytes at 0 < 128 → to ≡ at + 1 → IsCharBoundary bytes to
boundary-after bytes utf8 at to low high e = rw e (IsCharBoundary-after_ascii bytes at utf8 (inside_from_byte bytes at low) high)

pub boundary-before : (bytes : List ℕ) (at : ℕ) → 0 < get_or bytes at 0 → get_or bytes at 0 < 128 → IsCharBoundary bytes at
boundary-before bytes at low high = IsCharBoundary-before_ascii bytes at (inside_from_byte bytes at low) high
