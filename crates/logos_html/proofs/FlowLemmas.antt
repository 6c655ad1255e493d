-- Bytes of an input as preformatted text.
use Rattle.std.proofs.Common.{◌≡◌, Bool, true, false, ℕ, List, refl, chars, flat_map, IsUtf8}
use Rattle.std.proofs.lemmas.Str.{IsUtf8-from_is_utf8, is_utf8-from_IsUtf8}
use Rattle.std.specs.Str.{is_utf8}
use Rattle.logos_html.specs.Flows.{flowing_byte, flowing_bytes, flowing_char}

-- bytes that are not UTF-8 do not pass the test
not_utf8 : (bytes : List ℕ) → ¬ IsUtf8 bytes → is_utf8 bytes ≡ false
not_utf8 bytes other = go (is_utf8 bytes) refl
  where
    go : (b : Bool) → is_utf8 bytes ≡ b → is_utf8 bytes ≡ false
    go true e = absurd (other (IsUtf8-from_is_utf8 bytes e))
    go false e = e

-- the text of bytes that are UTF-8, and of others
pub utf8_flows : (bytes : List ℕ) → IsUtf8 bytes → flowing_bytes bytes ≡ flat_map flowing_char (chars bytes)
utf8_flows bytes u = rw (is_utf8-from_IsUtf8 bytes u) refl

pub others_flow : (bytes : List ℕ) → ¬ IsUtf8 bytes → flowing_bytes bytes ≡ flat_map flowing_byte bytes
others_flow bytes other = rw (not_utf8 bytes other) refl
