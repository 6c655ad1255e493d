-- The kinds of bytes, as look-around assertions distinguish them.
use Rattle.std.specs.Prelude.{ℕ, Bool, ◌||◌, ◌==◌, if◌then◌else◌, List, Option, Some, None}
use Rattle.std.specs.Char.{is_ascii_alphanumeric}
use Rattle.logos_hir.specs.Text.{byte_before, byte_after}
use Rattle.logos_hir.specs.Looks.{holds_between}
use Rattle.logos_hir.specs.declared.hir.Look.{Look}
use Rattle.logos_positions.specs.declared.positions.look.ByteKind.{ByteKind}
use Rattle.logos_positions.specs.declared.positions.look.ByteKind.TheVariants as kind
use Rattle.logos_positions.specs.declared.positions.look.Context.{Context}

-- The byte is one of `[0-9A-Za-z_]`.
abbrev pub is_word_byte : ℕ → Bool
is_word_byte b = is_ascii_alphanumeric b || b == 95

-- A byte of the kind, or `None` if there is no byte.
abbrev pub side_before : ByteKind → Option ℕ
side_before kind.Start = None
side_before kind.Unseen = Some 32
side_before kind.Word = Some 97
side_before kind.Cr = Some 13
side_before kind.Lf = Some 10
side_before kind.Other = Some 32

-- Whether a look-around assertion holds in the context.
abbrev pub test_at : Context → Look → Bool
test_at at l = holds_between l (side_before at.before) at.after

-- The kind of a byte, which determines the look-around assertions after it.
abbrev pub kind_of_byte : ℕ → ByteKind
kind_of_byte b = if is_word_byte b then kind.Word else if b == 13 then kind.Cr else if b == 10 then kind.Lf else kind.Other

-- The kind of the byte before a point, if there is one.
abbrev pub kind_before : Option ℕ → ByteKind
kind_before None = kind.Start
kind_before (Some b) = kind_of_byte b

-- The context of a point of the bytes.
abbrev pub context_at : List ℕ → ℕ → Context
context_at bytes at = record { before = kind_before (byte_before bytes at); after = byte_after bytes at }
