-- The text of warnings in a report.
use Rattle.std.specs.Prelude.{ℕ, Bool, List, [], ◌∷◌, ◌++◌, ◌-◌, ◌==◌, codes, decimal, if◌then◌else◌, length, nat_lt, string_bytes, take}
use Rattle.std.specs.List.{flat_map}
use Rattle.logos_page.specs.declared.page.Style.TheVariants.{Strong, Warning}
use Rattle.logos_report.specs.declared.warnings.Warning.{Warning as Shown}
use Rattle.logos_page.specs.Pages.{painted}
use Rattle.logos_report.specs.Locations.{SourceValue, location_line}
use Rattle.logos_page.specs.Shown.{shown_text}

-- The line of a warning: its message, in the form in which it is shown.
abbrev pub warning_head : Bool → List ℕ → List ℕ
warning_head is_colored message = painted is_colored Warning (codes "warning") ++ (painted is_colored Strong (codes ": " ++ shown_text message) ++ codes "\n")

-- The line of a warning, and the one that names its location in the file.
abbrev pub warning_texts : Bool → SourceValue → ℕ → Shown → List (List ℕ)
warning_texts is_colored source begin warning =
    warning_head is_colored (string_bytes warning.message) ∷ location_line is_colored source begin warning.span.from ∷ []

-- The texts of warnings of a part of a file, in order.
abbrev pub all_texts : Bool → SourceValue → ℕ → List Shown → List (List ℕ)
all_texts is_colored source begin warnings = flat_map (warning_texts is_colored source begin) warnings

-- The warnings that are shown: the first 50.
abbrev pub shown_of : List Shown → List Shown
shown_of warnings = if nat_lt 50 (length warnings) then take 50 warnings else warnings

-- The line with the number of warnings that are left out.
abbrev pub left_out_line : Bool → ℕ → List ℕ
left_out_line is_colored count = painted is_colored Warning (codes "warning") ++ (codes ": " ++ (decimal count ++ codes " more warnings are not shown\n"))

-- The line with the number of warnings that are left out, if there are any.
abbrev pub left_out_texts : Bool → ℕ → List (List ℕ)
left_out_texts is_colored count = if count == 0 then [] else left_out_line is_colored count ∷ []

-- The texts of warnings in a report.
abbrev pub warnings_texts : Bool → SourceValue → ℕ → List Shown → List (List ℕ)
warnings_texts is_colored source begin warnings =
    all_texts is_colored source begin (shown_of warnings) ++ left_out_texts is_colored (length warnings - 50)
