-- The core pattern of a tree.
use Rattle.std.specs.Prelude.{◌≡◌, ℕ, suc, ◌*◌, ◌≤◌, ◌^◌, ◌↔◌, false, List, Option, Some}
use Rattle.logos_hir.specs.Tree.{Tree, Trees}
use Rattle.logos_hir.specs.Matches.{Matches, MatchesInOrder, SomeMatches}
use Rattle.logos_positions.specs.Core as core
use Rattle.logos_positions.specs.Core.{Core, At, width, IsFree}
use Rattle.logos_positions.specs.Positions.{Position, Reads, ReadsInOrder, SomeReads, has_look, some_has_look}
use Rattle.logos_positions.specs.Size.{size, sizes}

-- The positions that read, by their numbers: the number `p` reads exactly if a position with that
-- number does.
abbrev pub ReadsAs : (Position → Option ℕ) → (ℕ → Type 0) → (Position → Type 0) → Type 0
ReadsAs number ByNumber ByPosition = (p : ℕ) → ByNumber p ↔ ((position : Position) × ByPosition position × (number position ≡ Some p))

-- The core pattern has the same matches as the tree, its positions are the positions of the tree,
-- and it is not much larger.
pub record IsCoreOf (tree : Tree) (c : Core) : Type 0 where
  pub matches : (bytes : List ℕ) (i j : ℕ) → core.Matches bytes c i j ↔ Matches tree bytes i j
  pub number : Position → Option ℕ
  pub reads : (bytes : List ℕ) (i at : ℕ) → ReadsAs number (λ p. core.Reads bytes c (At i) p (suc at)) (λ position. Reads tree bytes i position at)
  pub free : has_look tree ≡ false → IsFree c
  pub small : width c ≤ 2 ^ 16 * size tree

-- The core pattern of the parts from the `n`-th on, one after another.
pub record IsCoreOfParts (parts : Trees) (n : ℕ) (c : Core) : Type 0 where
  pub matches : (bytes : List ℕ) (i j : ℕ) → core.Matches bytes c i j ↔ MatchesInOrder parts bytes i j
  pub number : Position → Option ℕ
  pub reads : (bytes : List ℕ) (i at : ℕ) → ReadsAs number (λ p. core.Reads bytes c (At i) p (suc at)) (λ position. ReadsInOrder parts n bytes i position at)
  pub free : some_has_look parts ≡ false → IsFree c
  pub small : width c ≤ 2 ^ 16 * sizes parts

-- The core pattern of the branches from the `n`-th on.
pub record IsCoreOfBranches (branches : Trees) (n : ℕ) (c : Core) : Type 0 where
  pub matches : (bytes : List ℕ) (i j : ℕ) → core.Matches bytes c i j ↔ SomeMatches branches bytes i j
  pub number : Position → Option ℕ
  pub reads : (bytes : List ℕ) (i at : ℕ) → ReadsAs number (λ p. core.Reads bytes c (At i) p (suc at)) (λ position. SomeReads branches n bytes i position at)
  pub free : some_has_look branches ≡ false → IsFree c
  pub small : width c ≤ 2 ^ 16 * sizes branches
