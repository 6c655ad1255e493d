-- The tree that the builders make from a tree.
use Rattle.std.specs.Prelude.{◌≡◌, List, [], ◌∷◌}
use Rattle.logos_hir.specs.declared.hir.Hir.{Hir}
use Rattle.logos_hir.specs.Hir.{tree_of}
use Rattle.logos_hir.specs.Tree.{Tree, empty, literal, byte_class, char_class, look, repetition, capture, concat, alternation, Trees, none, also}
use Rattle.logos_hir.specs.Build.{repetition_of, concat_of, alternation_of}

abbrev mutual
  -- The tree with each repetition, concatenation and alternation made by its builder, from the
  -- innermost outwards.
  pub simplest : Tree → Tree
  simplest empty = empty
  simplest (literal text) = literal text
  simplest (byte_class ranges) = byte_class ranges
  simplest (char_class ranges) = char_class ranges
  simplest (look l) = look l
  simplest (repetition least most greedy body) = repetition_of least most greedy (simplest body)
  simplest (capture body) = capture (simplest body)
  simplest (concat parts) = concat_of (all_simplest parts)
  simplest (alternation branches) = alternation_of (all_simplest branches)

  pub all_simplest : Trees → List Tree
  all_simplest none = []
  all_simplest (also t rest) = simplest t ∷ all_simplest rest

-- The simplest tree of the tree that a `Hir` represents.
abbrev pub simplest_tree : Hir → Tree
simplest_tree hir = simplest (tree_of hir)

-- The tree is one that the builders make.
abbrev pub IsSimplest : Tree → Type 0
IsSimplest t = (u : Tree) × (simplest u ≡ t)
