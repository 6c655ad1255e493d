-- UTF-8 byte by byte: the bytes that may follow those that were read.
use Rattle.std.specs.Prelude.{ℕ, zero, suc, ◌-◌, Bool, ◌&&◌, List, [], ◌∷◌, Option, Some, None, if◌then◌else◌, ◌==◌, nat_lt, nat_le, option_and_then}
use Rattle.simdutf8.specs.Steps.{least_after, most_after}
use Rattle.logos_evidence.specs.declared.search.utf8.Rest.{Rest}

-- The rest of a character that `n` more bytes complete.
abbrev pub more : ℕ → Rest
more n = record { low = 0x80; high = 0xbf; count = n }

-- The rest of the character that a byte begins, if it begins one.
abbrev pub begun : ℕ → Option Rest
begun b =
    if nat_lt b 0x80 then Some (more 0) else
    (if nat_lt b 0xc2 then None else
    (if nat_lt b 0xe0 then Some (more 1) else
    (if nat_lt b 0xf0 then Some (record { low = least_after b; high = most_after b; count = 2 }) else
    (if nat_lt b 0xf5 then Some (record { low = least_after b; high = most_after b; count = 3 }) else None))))

-- The rest of the character after one more byte, if the byte is valid.
abbrev pub rest_after : Rest → ℕ → Option Rest
rest_after rest b =
    if rest.count == 0 then begun b else
    (if nat_le rest.low b && nat_le b rest.high then Some (more (rest.count - 1)) else None)

-- Like `rest_after` in UTF-8 mode; in the other mode every byte is valid, and no byte has to
-- follow.
abbrev pub rest_by : Bool → Rest → ℕ → Option Rest
rest_by utf8 rest b = if utf8 then rest_after rest b else Some rest

-- The rest of the character after several more bytes, if `rest_by` accepts each of them.
abbrev pub rest_over : Bool → Rest → List ℕ → Option Rest
rest_over utf8 rest [] = Some rest
rest_over utf8 rest (b ∷ bytes) = option_and_then (λ next. rest_over utf8 next bytes) (rest_by utf8 rest b)

-- The least `n` bytes that may follow inside a character, the first of them `low`.
abbrev pub leasts : ℕ → ℕ → List ℕ
leasts low zero = []
leasts low (suc n) = low ∷ leasts 0x80 n

-- The least bytes that complete a character.
abbrev pub completion : Rest → List ℕ
completion rest = leasts rest.low rest.count
