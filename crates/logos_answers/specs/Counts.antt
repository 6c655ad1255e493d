-- The number of items of each kind, as lines.
use Rattle.std.specs.Prelude.{◌≡◌, ◌≢◌, ◌<◌, ℕ, zero, suc, ◌+◌, ◌-◌, ◌^◌, ◌==◌, min, Bool, false, List, [], ◌++◌, Option, Some, None, bytes_eq, codes, decimal, if◌then◌else◌, length, option_and_then, slice_get, slice_index}
use Rattle.logos_code.specs.declared.code.CodeLeaf.{CodeLeaf}
use Rattle.logos_answers.specs.Names.{variant_name}

-- The variant of the leaf of a code with this number. A skip has none.
abbrev pub code_variant : List CodeLeaf → ℕ → Option (List ℕ)
code_variant leaves leaf = option_and_then (λ (it : CodeLeaf). variant_name it.kind) (slice_get leaves leaf)

-- One more, saturating at the greatest number.
abbrev pub one_more : ℕ → ℕ
one_more count = min (count + 1) (2 ^ 64 - 1)

-- The numbers of items of leaves, after one more item of a leaf: all others are unchanged.
pub record CountsItem (leaf : ℕ) (old new : List ℕ) : Type 0 where
  pub same_length : length new ≡ length old
  pub counted : leaf < length old → slice_index new leaf ≡ one_more (slice_index old leaf)
  pub others : (other : ℕ) → other ≢ leaf → slice_index new other ≡ slice_index old other

-- Two leaves are of one variant.
abbrev pub is_same_name : Option (List ℕ) → Option (List ℕ) → Bool
is_same_name (Some one) (Some other) = bytes_eq one other
is_same_name (Some one) None = false
is_same_name None other = false

-- The next leaf is of the same variant.
abbrev pub next_shares_variant : List CodeLeaf → ℕ → Bool
next_shares_variant leaves leaf = is_same_name (code_variant leaves leaf) (code_variant leaves (leaf + 1))

-- A line with a name and a number.
abbrev pub count_line : List ℕ → ℕ → List ℕ
count_line name count = name ++ (codes ": " ++ (decimal count ++ codes "\n"))

-- The line of a variant, which is empty if there are no items.
abbrev pub variant_line : Option (List ℕ) → ℕ → List ℕ
variant_line None count = []
variant_line (Some name) count = if count == 0 then [] else codes "  " ++ count_line name count

-- The line of a variant, at its last leaf.
abbrev pub line_after : List CodeLeaf → ℕ → ℕ → List ℕ
line_after leaves leaf sum = if next_shares_variant leaves leaf then [] else variant_line (code_variant leaves leaf) sum

-- The sum for the next leaf, which is 0 after the last leaf of a variant.
abbrev pub sum_after : List CodeLeaf → ℕ → ℕ → ℕ
sum_after leaves leaf sum = if next_shares_variant leaves leaf then sum else 0

module _ (leaves : List CodeLeaf) (counts : List ℕ) where
  -- The number of items of the leaves of a variant up to this leaf, from the sum of those before
  -- it.
  abbrev pub sum_with : ℕ → ℕ → ℕ
  sum_with leaf sum = min (sum + slice_index counts leaf) (2 ^ 64 - 1)

  -- The lines of the variants of `left` consecutive leaves.
  abbrev pub lines_from : ℕ → ℕ → ℕ → List ℕ
  lines_from leaf sum zero = []
  lines_from leaf sum (suc left) = line_after leaves leaf (sum_with leaf sum) ++ lines_from (suc leaf) (sum_after leaves leaf (sum_with leaf sum)) left

  -- A line for each variant that has items, in the order of the leaves.
  abbrev pub variant_lines : List ℕ
  variant_lines = lines_from 0 0 (length leaves)

-- The line that names an enum.
abbrev pub title_line : List ℕ → List ℕ
title_line name = codes "\nenum " ++ (name ++ codes "\n")

-- The line with the milliseconds that passed, if they are known.
abbrev pub time_line : Option ℕ → List ℕ
time_line None = []
time_line (Some passed) = count_line (codes "milliseconds") passed

-- The numbers of errors and bytes, and the time.
abbrev pub ends_text : ℕ → ℕ → Option ℕ → List ℕ
ends_text errors bytes passed = count_line (codes "errors") errors ++ (count_line (codes "bytes") bytes ++ time_line passed)

-- The counts for an input that the lexer of an enum read: the number of items of each leaf, the
-- numbers of errors and bytes, and the time.
abbrev pub totals_text : List ℕ → List CodeLeaf → List ℕ → ℕ → ℕ → Option ℕ → List ℕ
totals_text name leaves counts errors bytes passed = title_line name ++ (variant_lines leaves counts ++ ends_text errors bytes passed)
