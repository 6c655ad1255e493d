-- The offset of a line and a column of an input.
use Rattle.std.specs.Prelude.{◌≡◌, ℕ, ◌≤◌, false, List, length, slice_index}
use Rattle.logos_lines.specs.declared.location.Location.{Location}
use Rattle.logos_lines.specs.Locations.{location_at}
use Rattle.logos_answers.specs.Quoting.{continues}

-- A character begins at this offset, or the input ends there, and the offset has this line and
-- column.
pub record IsOffsetOf (input : List ℕ) (location : Location) (at : ℕ) : Type 0 where
  pub within : at ≤ length input
  pub begins : continues (slice_index input at) ≡ false
  pub is : location_at input at ≡ location
