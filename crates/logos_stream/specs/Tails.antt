-- The lexable prefix of the bytes that were read.
use Rattle.std.specs.Prelude.{◌≡◌, ◌⊎◌, ℕ, ◌≤◌, Bool, false, List, [], length, take, drop, IsTrue, IsUtf8, is_some}
use Rattle.std.specs.Str.{IsValidUpTo}
use Rattle.std.specs.Str.Lossy.{utf8_error_len}
use Rattle.logos_stream.specs.declared.tail.Tail.{Tail}

-- No character begins these bytes: their first ones are invalid whatever follows, or they end
-- inside a character.
pub record IsNoText (at_fault : Bool) (bytes : List ℕ) : Type 0 where
  pub none : IsValidUpTo bytes 0
  pub fault : at_fault ≡ is_some (utf8_error_len bytes)

-- The lexable prefix of some bytes: all of them; or, in a text, the longest prefix that is UTF-8.
pub record IsTail (utf8 : Bool) (bytes : List ℕ) (tail : Tail) : Type 0 where
  pub within : tail.valid ≤ length bytes
  pub text : IsTrue utf8 → IsUtf8 (take tail.valid bytes)
  pub rest : ((drop tail.valid bytes ≡ []) × (tail.is_at_fault ≡ false)) ⊎ (IsTrue utf8 × IsNoText tail.is_at_fault (drop tail.valid bytes))
