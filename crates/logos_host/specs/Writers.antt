-- The bytes that writers append.
use Rattle.std.specs.Prelude.{◌≡◌, ℕ, List, ◌++◌, Option}
use Rattle.std.specs.Io.KnownBytes.{Appends}

-- A prefix of a block was written, and the rest is left.
pub record AppendsFront (old new : Option (List ℕ)) (block left : List ℕ) : Type 0 where
  pub front : List ℕ
  pub parts : block ≡ front ++ left
  pub appends : Appends old new front
