-- Invariants that hold while a block comment is read.
use Rattle.std.specs.Prelude.{ℕ, ◌+◌, ◌<◌, ◌≤◌, List, length}
use Rattle.logos_lexeme.specs.LexemeEnds.{Closes}

-- From `next`, with `next_depth` comments open, the outermost comment ends at the same offset as
-- from `at`, with `depth` comments open.
pub record IsOnward (bytes : List ℕ) (depth at next_depth next : ℕ) : Type 0 where
  pub moves : at < next
  pub within : next ≤ length bytes
  pub shallow : next_depth ≤ next + 1
  pub on : (to : ℕ) → Closes bytes next_depth next to → Closes bytes depth at to
  pub back : (to : ℕ) → Closes bytes depth at to → Closes bytes next_depth next to
