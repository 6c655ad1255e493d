-- Locations in a file, in the form in which they are shown.
use Rattle.std.specs.Prelude.{ℕ, ◌+◌, ◌-◌, ◌^◌, min, Bool, List, ◌++◌, decimal, codes}
use Rattle.logos_lines.specs.declared.location.Location.{Location}
use Rattle.logos_lines.specs.Locations.{location_at}
use Rattle.logos_page.specs.declared.page.Style.TheVariants.{Frame}
use Rattle.logos_page.specs.Pages.{painted}
use Rattle.logos_page.specs.Shown.{shown_text}

-- The view of a file: its path and its text.
pub record SourceValue : Type 0 where
  pub path : List ℕ
  pub text : List ℕ

-- A location as `path:line:column`.
abbrev pub shown_line_column : List ℕ → Location → List ℕ
shown_line_column path location = shown_text path ++ (codes ":" ++ (decimal location.line ++ (codes ":" ++ decimal location.column)))

-- An offset in the file, for an offset in the part that begins at `begin`, saturating at the
-- greatest one.
abbrev pub in_file : ℕ → ℕ → ℕ
in_file begin offset = min (offset + begin) (2 ^ 64 - 1)

-- The location of an offset in the part of a file that begins at another offset.
abbrev pub shown_location : SourceValue → ℕ → ℕ → List ℕ
shown_location source begin offset = shown_line_column source.path (location_at source.text (in_file begin offset))

-- The line that names the location of a fault, after the blanks of its margin.
abbrev pub arrow_line : Bool → List ℕ → Location → List ℕ
arrow_line is_colored path location = painted is_colored Frame (codes "-->") ++ (codes " " ++ (shown_line_column path location ++ codes "\n"))

-- The line that names the location of an offset in a part of a file, after the blanks of its
-- margin.
abbrev pub location_line : Bool → SourceValue → ℕ → ℕ → List ℕ
location_line is_colored source begin offset = arrow_line is_colored source.path (location_at source.text (in_file begin offset))
