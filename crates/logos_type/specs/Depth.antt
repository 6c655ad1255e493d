-- The nesting depth of a type.
use Rattle.std.specs.Prelude.{ℕ, ◌+◌, ◌-◌, ◌==◌, ◌||◌, max, Bool, false}
use Rattle.logos_type.specs.Parts.{Tree, sign, name, whole, still, Trees, none, also}

abbrev mutual
  -- The depth of a type, which counts itself. Tokens do not count.
  pub depth : Tree → ℕ
  depth (sign s) = 0
  depth (name text) = 1
  depth (whole parts) = 1 + depth_of parts
  depth (still parts) = depth_of parts

  pub depth_of : Trees → ℕ
  depth_of none = 0
  depth_of (also part parts) = max (depth part) (depth_of parts)

abbrev mutual
  -- Whether a type is deeper than `levels`.
  pub exceeds : ℕ → Tree → Bool
  exceeds levels (sign s) = false
  exceeds levels (name text) = levels == 0
  exceeds levels (whole parts) = (levels == 0) || some_exceed (levels - 1) parts
  exceeds levels (still parts) = some_exceed levels parts

  pub some_exceed : ℕ → Trees → Bool
  some_exceed levels none = false
  some_exceed levels (also part parts) = exceeds levels part || some_exceed levels parts
