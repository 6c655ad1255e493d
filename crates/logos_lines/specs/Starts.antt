-- The offsets at which the lines of a text begin.
use Rattle.std.specs.Prelude.{◌≡◌, ℕ, ◌+◌, ◌*◌, ◌<◌, ◌⊎◌, List, length, get_or, take, drop, IsCharBoundary}
use Rattle.logos_lines.specs.declared.location.Location.{Location}
use Rattle.logos_lines.specs.Locations.{location_at, line_length}

-- Line `line` of the text begins at `offset`.
pub record IsStart (text : List ℕ) (line offset : ℕ) : Type 0 where
  pub boundary : IsCharBoundary text offset
  pub location : location_at text offset ≡ record { line = line; column = 1 }

-- `starts` are the offsets, up to `to`, at which the lines of a text begin, one for each line, in
-- order.
pub record AreStartsTo (text : List ℕ) (starts : List ℕ) (to : ℕ) : Type 0 where
  pub some : 0 < length starts
  pub first : get_or starts 0 0 ≡ 0
  pub every : length starts ≡ (location_at text to).line
  pub each : (k : ℕ) → k < length starts → IsStart text (k + 1) (get_or starts k 0)

-- `starts` are the offsets at which the lines of a text begin.
abbrev pub AreStarts : List ℕ → List ℕ → Type 0
AreStarts text starts = AreStartsTo text starts (length text)

-- The text has no line with this number.
abbrev pub IsNoLine : List ℕ → ℕ → Type 0
IsNoLine text line = (line ≡ 0) ⊎ ((location_at text (length text)).line < line)

-- `shown` is the text of a line, without its line end.
pub record IsLineOf (text : List ℕ) (line : ℕ) (shown : List ℕ) : Type 0 where
  pub from : ℕ
  pub start : IsStart text line from
  pub shows : shown ≡ take (line_length (drop from text)) (drop from text)

-- The text of the line, without its line end, has more than `most` bytes.
pub record IsLongLine (text : List ℕ) (line most : ℕ) : Type 0 where
  pub from : ℕ
  pub start : IsStart text line from
  pub longer : most < line_length (drop from text)

-- `stops` are the locations of the offsets 0, 256, 512 and so on of the text, up to its end.
pub record AreStops (text : List ℕ) (stops : List Location) : Type 0 where
  pub whole : length text < length stops * 256
  pub each : (k : ℕ) (other : Location) → k < length stops → get_or stops k other ≡ location_at text (k * 256)
