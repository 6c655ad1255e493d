-- The tree of a pattern, independent of its memory.
use Rattle.std.specs.Prelude.{ℕ, Bool, List, [], ◌∷◌, Option}
use Rattle.logos_hir.specs.declared.hir.Look.{Look}

mutual
  -- A pattern as a tree.
  pub data Tree : Type 0 where
    -- The empty string.
    empty : Tree
    -- These bytes.
    literal : List ℕ → Tree
    -- One byte of these ranges.
    byte_class : List (ℕ × ℕ) → Tree
    -- One character of these ranges.
    char_class : List (ℕ × ℕ) → Tree
    -- A look-around assertion.
    look : Look → Tree
    -- The least count, the greatest one if there is one, and whether it is greedy.
    repetition : ℕ → Option ℕ → Bool → Tree → Tree
    capture : Tree → Tree
    -- All parts, one after another.
    concat : Trees → Tree
    -- One of the branches.
    alternation : Trees → Tree

  pub data Trees : Type 0 where
    none : Trees
    also : Tree → Trees → Trees

-- A list of trees.
abbrev pub trees : List Tree → Trees
trees [] = none
trees (t ∷ rest) = also t (trees rest)
