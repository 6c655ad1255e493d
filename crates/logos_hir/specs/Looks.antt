-- The meaning of look-around assertions: conditions on the byte before a position, the byte after
-- it, or the absence of either.
use Rattle.std.specs.Prelude.{ℕ, Bool, not, ◌&&◌, ◌||◌, List, Option, is_none, if◌then◌else◌, ◌==◌, IsTrue}
use Rattle.std.specs.Option.{option_map_or}
use Rattle.std.specs.Char.{is_ascii_alphanumeric}
use Rattle.std.specs.Prelude.{false}
use Rattle.logos_hir.specs.declared.hir.Look.{Look}
use Rattle.logos_hir.specs.declared.hir.Look.TheVariants.{Start, End, StartLF, EndLF, StartCRLF, EndCRLF, WordAscii, WordAsciiNegate}
use Rattle.logos_hir.specs.Text.{byte_before, byte_after}

-- There is a byte, and it is `c`.
abbrev pub is_byte : ℕ → Option ℕ → Bool
is_byte c side = option_map_or (λ b. b == c) side false

-- There is a byte, and it is one of `[0-9A-Za-z_]`.
abbrev pub is_word : Option ℕ → Bool
is_word side = option_map_or (λ b. is_ascii_alphanumeric b || b == 95) side false

-- Exactly one of the two holds.
abbrev pub differ : Bool → Bool → Bool
differ a b = if a then not b else b

-- The look-around assertion holds between the byte before and the byte after. LF is 10, CR is 13.
abbrev pub holds_between : Look → Option ℕ → Option ℕ → Bool
holds_between Start before after = is_none before
holds_between End before after = is_none after
holds_between StartLF before after = is_none before || is_byte 10 before
holds_between EndLF before after = is_none after || is_byte 10 after
holds_between StartCRLF before after = is_none before || is_byte 10 before || (is_byte 13 before && not (is_byte 10 after))
holds_between EndCRLF before after = is_none after || is_byte 13 after || (is_byte 10 after && not (is_byte 13 before))
holds_between WordAscii before after = differ (is_word before) (is_word after)
holds_between WordAsciiNegate before after = not (differ (is_word before) (is_word after))

-- The look-around assertion holds at this position of the bytes.
abbrev pub Holds : Look → List ℕ → ℕ → Type 0
Holds look bytes at = IsTrue (holds_between look (byte_before bytes at) (byte_after bytes at))
