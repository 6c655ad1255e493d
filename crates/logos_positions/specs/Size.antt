-- The size of trees.
use Rattle.std.specs.Prelude.{ℕ, ◌+◌, ◌*◌, max, length}
use Rattle.logos_hir.specs.Tree.{Tree, empty, literal, byte_class, char_class, look, repetition, capture, concat, alternation, Trees, none, also}
use Rattle.logos_positions.specs.Positions.{copies}

abbrev mutual
  -- The size of a tree, which bounds the number of its positions.
  pub size : Tree → ℕ
  size empty = 0
  size (literal text) = length text
  size (byte_class ranges) = 1
  size (char_class ranges) = max 1 (4 * length ranges)
  size (look l) = 1
  size (repetition least most greedy body) = size body * copies least most
  size (capture body) = size body
  size (concat parts) = sizes parts
  size (alternation branches) = sizes branches

  pub sizes : Trees → ℕ
  sizes none = 0
  sizes (also t rest) = size t + sizes rest
