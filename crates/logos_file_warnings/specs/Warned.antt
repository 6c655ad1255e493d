-- The text of the warnings of a file.
use Rattle.std.specs.Prelude.{◌<◌, ◌++◌, ◌∷◌, [], ℕ, Bool, List, codes, if◌then◌else◌, length}
use Rattle.logos_host.specs.declared.message_format.MessageFormat.{MessageFormat}
use Rattle.logos_host.specs.declared.message_format.MessageFormat.TheVariants.{Human, Json}
use Rattle.logos_messages.specs.Warnings.{AreWarnings}
use Rattle.logos_page.specs.Shown.{shown_text}
use Rattle.logos_report.specs.Locations.{SourceValue}
use Rattle.logos_report.specs.Reports.{InReport}
use Rattle.logos_report.specs.Warnings.{shown_of, warnings_texts}
use Rattle.logos_report.specs.declared.warnings.Warning.{Warning}

-- The line which states that no enum of a file derives `Logos`.
abbrev pub missing_line : SourceValue → List ℕ
missing_line source = codes "warning: no enum in " ++ (shown_text source.path ++ codes " derives `Logos`\n")

-- The line which states that no enum of a file derives `Logos`, if none does.
abbrev pub missing_texts : SourceValue → Bool → List (List ℕ)
missing_texts source is_missing = if is_missing then missing_line source ∷ [] else []

-- The line which states that warnings are denied.
abbrev pub denied_line : List ℕ
denied_line = codes "error: warnings are denied by `--deny-warnings`\n"

-- The text of warnings, of which the first 50 are shown, in order: a report that ends with some
-- lines, with or without colors, or lines of JSON.
abbrev pub ShowsWarnings : MessageFormat → SourceValue → List Warning → List (List ℕ) → List ℕ → Type 0
ShowsWarnings Human source warnings last shown = (is_colored : Bool) × InReport is_colored (warnings_texts is_colored source 0 warnings ++ last) shown
ShowsWarnings Json source warnings last shown = AreWarnings source 0 (shown_of warnings) shown

-- The text of a refusal because of warnings that satisfy `Are`: there is at least one, and the text
-- shows them.
abbrev pub ShowsDenial : (List Warning → Type 0) → MessageFormat → SourceValue → List ℕ → Type 0
ShowsDenial Are format source shown = (warnings : List Warning) × Are warnings × (0 < length warnings) × ShowsWarnings format source warnings (denied_line ∷ []) shown
