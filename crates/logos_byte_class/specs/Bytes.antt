-- Sets of bytes: ranges, and ranges with exceptions.
use Rattle.std.specs.Prelude.{ℕ, ◌+◌, ◌≤◌, Bool, not, ◌&&◌, List, [], ◌∷◌, map, length, if◌then◌else◌, ◌==◌, nat_lt, nat_le}
use Rattle.std.specs.List.{list_any}
use Rattle.std.specs.Range.{range_inclusive_start, range_inclusive_end}
use Rattle.std.specs.declared.ops.RangeInclusive.{RangeInclusive}
use Rattle.logos_hir.specs.ByteRanges.{is_in}
use Rattle.logos_byte_class.specs.declared.byte_class.ByteClass.{ByteClass}
use Rattle.logos_byte_class.specs.declared.byte_class.Comparisons.{Comparisons}

-- The first and the last byte of a range.
abbrev pub bounds : RangeInclusive ℕ → ℕ × ℕ
bounds r = (range_inclusive_start r, range_inclusive_end r)

-- The ranges of a class.
abbrev pub ranges_of : ByteClass → List (ℕ × ℕ)
ranges_of class = map bounds class.ranges.items

-- The byte is in the class.
abbrev pub has_byte : ByteClass → ℕ → Bool
has_byte class b = is_in (ranges_of class) b

-- Each range is non-empty, the first starts at `least` or later, and before each other one there is
-- a byte that is in neither range.
abbrev pub AreSeparatedFrom : ℕ → List (ℕ × ℕ) → Type 0
AreSeparatedFrom least [] = Unit {0}
AreSeparatedFrom least (r ∷ rest) = (least ≤ r.0) × (r.0 ≤ r.1) × AreSeparatedFrom (r.1 + 2) rest

-- Ranges ascend, with a byte that is in neither between any two.
abbrev pub AreSeparated : List (ℕ × ℕ) → Type 0
AreSeparated = AreSeparatedFrom 0

-- A range of bytes, which includes its last one, except for some of them.
pub record Comparison : Type 0 where
  pub first : ℕ
  pub last : ℕ
  pub except : List ℕ

-- The range and the exceptions that a value of type `Comparisons` represents.
abbrev pub comparison_of : Comparisons → Comparison
comparison_of c = record { first = range_inclusive_start c.range; last = range_inclusive_end c.range; except = c.except.items }

-- The byte is in the list.
abbrev pub is_among : List ℕ → ℕ → Bool
is_among bs b = list_any (λ c. c == b) bs

-- The comparison holds for the byte.
abbrev pub compares : Comparison → ℕ → Bool
compares c b = nat_le c.first b && nat_le b c.last && not (is_among c.except b)

-- One of the comparisons holds for the byte.
abbrev pub some_compares : List Comparison → ℕ → Bool
some_compares cs b = list_any (λ c. compares c b) cs

-- A range before comparisons. If exactly one byte lies between the range and the first comparison,
-- they share that comparison, and the byte is an exception.
abbrev pub join : ℕ × ℕ → List Comparison → List Comparison
join r [] = record { first = r.0; last = r.1; except = [] } ∷ []
join r (c ∷ cs) =
    if c.first == r.1 + 2 then record { first = r.0; last = c.last; except = (r.1 + 1) ∷ c.except } ∷ cs
    else record { first = r.0; last = r.1; except = [] } ∷ c ∷ cs

-- The comparisons for a list of ranges.
abbrev pub joined : List (ℕ × ℕ) → List Comparison
joined [] = []
joined (r ∷ rest) = join r (joined rest)

-- The number of operations that test a byte: one for a single byte, otherwise one for a start above
-- 0 and one for an end below 255; and one for each exception.
abbrev pub operations : Comparison → ℕ
operations c =
    (if c.first == c.last then 1 else (if nat_lt 0 c.first then 1 else 0) + (if nat_lt c.last 255 then 1 else 0)) + length c.except
