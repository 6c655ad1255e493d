-- Trees in their simplest form: the combination of characters, classes, parts, branches and
-- repetitions.
use Rattle.std.specs.Prelude.{ℕ, min, Bool, true, false, ◌&&◌, ◌==◌, List, [], ◌∷◌, ◌++◌, Option, Some, None, unwrap_or, option_map, option_and_then, flat_map, if◌then◌else◌, encode_utf8, chars}
use Rattle.std.specs.Str.{is_utf8}
use Rattle.logos_hir.specs.Sets.{Set, members, char_ranges, byte_ranges}
use Rattle.logos_hir.specs.Tree.{Tree, empty, literal, byte_class, char_class, look, repetition, capture, concat, alternation, Trees, none, also, trees}

-- The trees as a list.
abbrev pub list_of : Trees → List Tree
list_of none = []
list_of (also t rest) = t ∷ list_of rest

-- ---- literals and classes.

-- The tree that matches these bytes in order. No bytes make `Empty`.
abbrev pub literal_of : List ℕ → Tree
literal_of [] = empty
literal_of (b ∷ rest) = literal (b ∷ rest)

-- The member of the ranges, if there is exactly one.
abbrev pub sole_member : List (ℕ × ℕ) → Option ℕ
sole_member [] = None
sole_member (r ∷ []) = if r.0 == r.1 then Some r.0 else None
sole_member (r ∷ s ∷ rest) = None

-- A class of characters with these ranges. A class of one member is a literal.
abbrev pub char_tree : List (ℕ × ℕ) → Tree
char_tree ranges = unwrap_or (option_map (λ c. literal (encode_utf8 c)) (sole_member ranges)) (char_class ranges)

-- A class of bytes with these ranges. A class of one member is a literal.
abbrev pub byte_tree : List (ℕ × ℕ) → Tree
byte_tree ranges = unwrap_or (option_map (λ b. literal (b ∷ [])) (sole_member ranges)) (byte_class ranges)

-- The tree that matches one character of the set.
abbrev pub one_char_of : Set → Tree
one_char_of set = char_tree (char_ranges set)

-- The tree that matches one byte of the set.
abbrev pub one_byte_of : Set → Tree
one_byte_of set = byte_tree (byte_ranges set)

-- ---- repetitions.

abbrev mutual
  -- The tree has neither a literal nor a class, so that each of its matches is empty.
  pub is_byteless : Tree → Bool
  is_byteless empty = true
  is_byteless (literal text) = false
  is_byteless (byte_class ranges) = false
  is_byteless (char_class ranges) = false
  is_byteless (look l) = true
  is_byteless (repetition least most greedy body) = is_byteless body
  is_byteless (capture body) = is_byteless body
  is_byteless (concat parts) = all_byteless parts
  is_byteless (alternation branches) = all_byteless branches

  pub all_byteless : Trees → Bool
  all_byteless none = true
  all_byteless (also t rest) = is_byteless t && all_byteless rest

-- Whether a greatest count is `n`.
abbrev pub is_most : ℕ → Option ℕ → Bool
is_most n None = false
is_most n (Some most) = most == n

-- A greatest count, limited to at most 1.
abbrev pub cut : Option ℕ → Option ℕ
cut None = Some 1
cut (Some most) = Some (min most 1)

-- A repetition. A repetition of exactly one time is the body itself.
abbrev pub times : ℕ → Option ℕ → Bool → Tree → Tree
times least most greedy body = if least == 1 && is_most 1 most then body else repetition least most greedy body

-- A repetition in its simplest form. A repetition of zero times is `Empty`, and both counts are at
-- most 1 if the body is byteless.
abbrev pub repetition_of : ℕ → Option ℕ → Bool → Tree → Tree
repetition_of least most greedy body =
    if is_most 0 most then empty
    else if is_byteless body then times (min least 1) (cut most) greedy body
    else times least most greedy body

-- ---- concatenations.

-- The parts that a tree adds to a concatenation.
abbrev pub parts_of : Tree → List Tree
parts_of empty = []
parts_of (concat parts) = list_of parts
parts_of t = t ∷ []

-- Parts with bytes before them. If the first part is a literal, the bytes are added to it.
abbrev pub with_text : List ℕ → List Tree → List Tree
with_text text (literal more ∷ rest) = literal (text ++ more) ∷ rest
with_text text rest = literal text ∷ rest

-- Parts with another part before them. Two literals become one.
abbrev pub join : Tree → List Tree → List Tree
join (literal text) rest = with_text text rest
join t rest = t ∷ rest

-- The parts with neighboring literals joined.
abbrev pub junction : List Tree → List Tree
junction [] = []
junction (t ∷ rest) = join t (junction rest)

-- A concatenation of the parts, unchanged. A single part is the result itself, and no parts make
-- `Empty`.
abbrev pub in_a_row : List Tree → Tree
in_a_row [] = empty
in_a_row (t ∷ []) = t
in_a_row (t ∷ u ∷ rest) = concat (trees (t ∷ u ∷ rest))

-- A concatenation in its simplest form: flattened, without `Empty`, neighboring literals joined.
abbrev pub concat_of : List Tree → Tree
concat_of parts = in_a_row (junction (flat_map parts_of parts))

-- ---- alternations.

-- The element, if there is exactly one.
abbrev pub sole_item : List ℕ → Option ℕ
sole_item [] = None
sole_item (c ∷ []) = Some c
sole_item (c ∷ d ∷ rest) = None

-- The character that is the whole text, if the text has exactly one.
abbrev pub sole_char : List ℕ → Option ℕ
sole_char text = if is_utf8 text then sole_item (chars text) else None

-- The ranges of a class of characters, or of a literal of one character.
abbrev pub char_ranges_of : Tree → Option (List (ℕ × ℕ))
char_ranges_of (char_class ranges) = Some ranges
char_ranges_of (literal text) = option_map (λ c. (c, c) ∷ []) (sole_char text)
char_ranges_of t = None

-- The ranges of a class of bytes, or of a literal of one byte.
abbrev pub byte_ranges_of : Tree → Option (List (ℕ × ℕ))
byte_ranges_of (byte_class ranges) = Some ranges
byte_ranges_of (literal text) = option_map (λ b. (b, b) ∷ []) (sole_item text)
byte_ranges_of t = None

-- The ranges of all trees, if each has some.
abbrev pub all_ranges : (Tree → Option (List (ℕ × ℕ))) → List Tree → Option (List (ℕ × ℕ))
all_ranges ranges_of [] = Some []
all_ranges ranges_of (t ∷ rest) =
    option_and_then (λ first. option_map (λ more. first ++ more) (all_ranges ranges_of rest)) (ranges_of t)

-- The branches that a tree adds to an alternation.
abbrev pub branches_of : Tree → List Tree
branches_of (alternation branches) = list_of branches
branches_of t = t ∷ []

-- A class of bytes of these ranges if there are some, and an alternation of the branches otherwise.
abbrev pub bytes_or : List Tree → Option (List (ℕ × ℕ)) → Tree
bytes_or branches (Some ranges) = one_byte_of (members ranges)
bytes_or branches None = alternation (trees branches)

-- A class of characters of these ranges if there are some, and otherwise a class of bytes or an
-- alternation of the branches.
abbrev pub chars_or : List Tree → Option (List (ℕ × ℕ)) → Tree
chars_or branches (Some ranges) = one_char_of (members ranges)
chars_or branches None = bytes_or branches (all_ranges byte_ranges_of branches)

-- An alternation of branches that are not alternations. A single branch is the result itself, and
-- branches that fit a class become that class.
abbrev pub choice_of : List Tree → Tree
choice_of [] = chars_or [] (all_ranges char_ranges_of [])
choice_of (t ∷ []) = t
choice_of (t ∷ u ∷ rest) = chars_or (t ∷ u ∷ rest) (all_ranges char_ranges_of (t ∷ u ∷ rest))

-- An alternation in its simplest form: branches of inner alternations become its own.
abbrev pub alternation_of : List Tree → Tree
alternation_of branches = choice_of (flat_map branches_of branches)
