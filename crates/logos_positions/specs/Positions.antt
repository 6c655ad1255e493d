-- The positions of a tree, at which it reads a byte, as in Glushkov's construction.
use Rattle.std.specs.Prelude.{◌≡◌, ℕ, ◌+◌, ◌<◌, min, max, ◌⊎◌, Bool, ◌||◌, false, true, List, [], length, take, Option, Some, None, if◌then◌else◌, ◌==◌, IfSome, encode_utf8}
use Rattle.std.specs.Char.{IsScalar}
use Rattle.logos_hir.specs.Text.{InRanges, OccursAt}
use Rattle.logos_hir.specs.Tree.{Tree, empty, literal, byte_class, char_class, look, repetition, capture, concat, alternation, Trees, none, also}
use Rattle.logos_hir.specs.Matches.{Matches, Pieces}

-- A position of a tree.
pub data Position : Type 0 where
  -- The literal's byte with this number.
  byte_of : ℕ → Position
  -- A class, with the bytes that have been read of a character that is not complete.
  member : List ℕ → Position
  -- A position in the part or the branch with this number, or in this copy of the body.
  within : ℕ → Position → Position

-- The copies of a repetition's body: the greater of 1 and the largest count, or the least count
-- plus 1 if there is no largest.
abbrev pub copies : ℕ → Option ℕ → ℕ
copies least None = least + 1
copies least (Some most) = max 1 most

-- The bytes of a character that have been read, if they are not all of its bytes.
abbrev pub begun : ℕ → List ℕ → List ℕ
begun n text = if n + 1 == length text then [] else take (n + 1) text

abbrev mutual
  -- In a match from `from` on, the position can read the byte at `at`, where all look-around
  -- assertions before it hold.
  pub Reads : Tree → List ℕ → ℕ → Position → ℕ → Type 0
  Reads empty bytes from position at = ⊥
  Reads (literal text) bytes from position at =
      (n : ℕ) × (n < length text) × (position ≡ byte_of n) × (at ≡ from + n) × OccursAt (take (n + 1) text) bytes from (at + 1)
  Reads (byte_class ranges) bytes from position at =
      (position ≡ member []) × Matches (byte_class ranges) bytes from (at + 1)
  Reads (char_class ranges) bytes from position at =
      (c n : ℕ) × IsScalar c × InRanges ranges c × (n < length (encode_utf8 c)) × (at ≡ from + n) × (position ≡ member (begun n (encode_utf8 c))) × OccursAt (take (n + 1) (encode_utf8 c)) bytes from (at + 1)
  Reads (look l) bytes from position at = ⊥
  Reads (repetition least most greedy body) bytes from position at =
      (turns cut : ℕ) × (inner : Position) × IfSome most (λ m. turns < m) × Pieces (Matches body bytes) turns from cut × Reads body bytes cut inner at × (position ≡ within (min (turns + 1) (copies least most)) inner)
  Reads (capture body) bytes from position at = Reads body bytes from position at
  Reads (concat parts) bytes from position at = ReadsInOrder parts 0 bytes from position at
  Reads (alternation branches) bytes from position at = SomeReads branches 0 bytes from position at

  -- Some part reads the byte, after the parts before it. The parts are numbered.
  pub ReadsInOrder : Trees → ℕ → List ℕ → ℕ → Position → ℕ → Type 0
  ReadsInOrder none n bytes from position at = ⊥
  ReadsInOrder (also part parts) n bytes from position at =
      ((inner : Position) × Reads part bytes from inner at × (position ≡ within n inner))
      ⊎ ((cut : ℕ) × Matches part bytes from cut × ReadsInOrder parts (n + 1) bytes cut position at)

  pub SomeReads : Trees → ℕ → List ℕ → ℕ → Position → ℕ → Type 0
  SomeReads none n bytes from position at = ⊥
  SomeReads (also branch branches) n bytes from position at =
      ((inner : Position) × Reads branch bytes from inner at × (position ≡ within n inner))
      ⊎ SomeReads branches (n + 1) bytes from position at

abbrev mutual
  -- A tree has a look-around assertion.
  pub has_look : Tree → Bool
  has_look empty = false
  has_look (literal text) = false
  has_look (byte_class ranges) = false
  has_look (char_class ranges) = false
  has_look (look l) = true
  has_look (repetition least most greedy body) = has_look body
  has_look (capture body) = has_look body
  has_look (concat parts) = some_has_look parts
  has_look (alternation branches) = some_has_look branches

  pub some_has_look : Trees → Bool
  some_has_look none = false
  some_has_look (also t rest) = has_look t || some_has_look rest
