-- Measures of a tree: whether a number fits, whether its literals are text, and whether it repeats
-- a dot greedily.
use Rattle.std.specs.Prelude.{ℕ, ◌^◌, Bool, true, false, ◌&&◌, ◌||◌, nat_lt, List, [], ◌∷◌, Option, Some, None, if◌then◌else◌, ◌==◌}
use Rattle.std.specs.List.{list_all}
use Rattle.std.specs.Cmp.Lexicographic.{pointwise}
use Rattle.std.specs.Str.{is_utf8}
use Rattle.logos_hir.specs.Tree.{Tree, empty, literal, byte_class, char_class, look, repetition, capture, concat, alternation, Trees, none, also}

-- The number, if it fits `usize`.
abbrev pub fitted : ℕ → Option ℕ
fitted n = if nat_lt n (2 ^ 64) then Some n else None

abbrev mutual
  -- Each literal is UTF-8, and each class of bytes contains only ASCII.
  pub is_text : Tree → Bool
  is_text empty = true
  is_text (literal text) = is_utf8 text
  is_text (byte_class ranges) = list_all (λ r. nat_lt r.1 128) ranges
  is_text (char_class ranges) = true
  is_text (look l) = true
  is_text (repetition least most greedy body) = is_text body
  is_text (capture body) = is_text body
  is_text (concat parts) = all_text parts
  is_text (alternation branches) = all_text branches

  pub all_text : Trees → Bool
  all_text none = true
  all_text (also t rest) = is_text t && all_text rest

-- The ranges are equal.
abbrev pub is_same : ℕ × ℕ → ℕ × ℕ → Bool
is_same r s = (r.0 == s.0) && (r.1 == s.1)

-- All numbers up to the last one, possibly without LF, or without LF and CR. LF is 10, CR is 13.
abbrev pub is_all : ℕ → List (ℕ × ℕ) → Bool
is_all last ranges =
    pointwise is_same ranges ((0, last) ∷ [])
    || pointwise is_same ranges ((0, 9) ∷ (11, last) ∷ [])
    || pointwise is_same ranges ((0, 9) ∷ (11, 12) ∷ (14, last) ∷ [])

-- A class that a dot can denote.
abbrev pub is_dot : Tree → Bool
is_dot (char_class ranges) = is_all 0x10_FFFF ranges
is_dot (byte_class ranges) = is_all 255 ranges
is_dot t = false

abbrev mutual
  -- The tree has an unbounded greedy repetition of a dot, outside other repetitions.
  pub has_greedy_dot : Tree → Bool
  has_greedy_dot empty = false
  has_greedy_dot (literal text) = false
  has_greedy_dot (byte_class ranges) = false
  has_greedy_dot (char_class ranges) = false
  has_greedy_dot (look l) = false
  has_greedy_dot (repetition least None greedy body) = greedy && is_dot body
  has_greedy_dot (repetition least (Some most) greedy body) = false
  has_greedy_dot (capture body) = has_greedy_dot body
  has_greedy_dot (concat parts) = some_greedy_dot parts
  has_greedy_dot (alternation branches) = some_greedy_dot branches

  pub some_greedy_dot : Trees → Bool
  some_greedy_dot none = false
  some_greedy_dot (also t rest) = has_greedy_dot t || some_greedy_dot rest
