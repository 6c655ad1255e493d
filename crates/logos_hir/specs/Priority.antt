-- The default priority of a tree.
use Rattle.std.specs.Prelude.{ℕ, ◌+◌, ◌*◌, min, List, length, if◌then◌else◌, chars}
use Rattle.std.specs.Str.{is_utf8}
use Rattle.logos_hir.specs.Tree.{Tree, empty, literal, byte_class, char_class, look, repetition, capture, concat, alternation, Trees, none, also}

-- The number of characters if the bytes are UTF-8, otherwise the number of bytes.
abbrev pub text_size : List ℕ → ℕ
text_size text = if is_utf8 text then length (chars text) else length text

abbrev mutual
  -- The default priority of a tree.
  pub value : Tree → ℕ
  value empty = 0
  value (literal text) = 2 * text_size text
  value (byte_class ranges) = 2
  value (char_class ranges) = 2
  value (look l) = 0
  value (repetition least most greedy body) = least * value body
  value (capture body) = value body
  value (concat parts) = sum_of_values parts
  value (alternation branches) = least_value branches

  pub sum_of_values : Trees → ℕ
  sum_of_values none = 0
  sum_of_values (also part parts) = value part + sum_of_values parts

  -- The least value of the branches.
  pub least_value : Trees → ℕ
  least_value none = 0
  least_value (also branch none) = value branch
  least_value (also branch (also other others)) = min (value branch) (least_value (also other others))
