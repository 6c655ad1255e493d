-- The matches of a pattern: spans from one position of the bytes to another.
use Rattle.std.specs.Prelude.{◌≡◌, ℕ, zero, suc, ◌≤◌, ◌⊎◌, List, [], ◌∷◌, Option, IfSome, encode_utf8}
use Rattle.std.specs.Char.{IsScalar}
use Rattle.logos_hir.specs.Text.{OccursAt, InRanges}
use Rattle.logos_hir.specs.Tree.{Tree, empty, literal, byte_class, char_class, look, repetition, capture, concat, alternation, Trees, none, also}
use Rattle.logos_hir.specs.Looks.{Holds}

-- A number of consecutive pieces lead from one position to another.
abbrev pub Pieces : (ℕ → ℕ → Type 0) → ℕ → ℕ → ℕ → Type 0
Pieces piece zero from to = from ≡ to
Pieces piece (suc n) from to = (cut : ℕ) × piece from cut × Pieces piece n cut to

-- The count is at least the least one, and at most the greatest one if there is one.
abbrev pub IsCount : ℕ → Option ℕ → ℕ → Type 0
IsCount least most n = (least ≤ n) × IfSome most (λ m. n ≤ m)

abbrev mutual
  -- The tree matches the bytes from `from` to `to`.
  pub Matches : Tree → List ℕ → ℕ → ℕ → Type 0
  Matches empty bytes from to = from ≡ to
  Matches (literal text) bytes from to = OccursAt text bytes from to
  Matches (byte_class ranges) bytes from to = (b : ℕ) × InRanges ranges b × OccursAt (b ∷ []) bytes from to
  Matches (char_class ranges) bytes from to =
      (c : ℕ) × IsScalar c × InRanges ranges c × OccursAt (encode_utf8 c) bytes from to
  Matches (look l) bytes from to = (from ≡ to) × Holds l bytes from
  Matches (repetition least most greedy body) bytes from to =
      (n : ℕ) × IsCount least most n × Pieces (Matches body bytes) n from to
  Matches (capture body) bytes from to = Matches body bytes from to
  Matches (concat parts) bytes from to = MatchesInOrder parts bytes from to
  Matches (alternation branches) bytes from to = SomeMatches branches bytes from to

  -- The parts match one after another.
  pub MatchesInOrder : Trees → List ℕ → ℕ → ℕ → Type 0
  MatchesInOrder none bytes from to = from ≡ to
  MatchesInOrder (also part parts) bytes from to =
      (cut : ℕ) × Matches part bytes from cut × MatchesInOrder parts bytes cut to

  -- Some branch matches.
  pub SomeMatches : Trees → List ℕ → ℕ → ℕ → Type 0
  SomeMatches none bytes from to = ⊥
  SomeMatches (also branch branches) bytes from to =
      Matches branch bytes from to ⊎ SomeMatches branches bytes from to
