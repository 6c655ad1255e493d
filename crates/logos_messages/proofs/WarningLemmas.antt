-- The lines of warnings, one after another.
use Rattle.std.proofs.Common.{◌≤◌, ◌<◌, ◌+◌, ℕ, List, [], ◌∷◌, length, get_or, drop, sym, refl, subst}
use Rattle.std.proofs.lemmas.List.{drop_all, drop_more}
use Rattle.logos_json.proofs.LineLemmas.{puts_nothing, puts_then}
use Rattle.logos_json.specs.Lines.{LinesValue}
use Rattle.logos_report.specs.declared.warnings.Warning.{Warning}
use Rattle.logos_report.specs.Locations.{SourceValue}
use Rattle.logos_messages.specs.Warnings.{PutsWarning, PutsWarnings}

-- the line of the next warning, and those of the rest
pub next_warned : (source : SourceValue) (begin : ℕ) (warnings : List Warning) (i : ℕ) (d : Warning) {old middle new : LinesValue} → i < length warnings → PutsWarning source begin (get_or warnings i d) old middle →
    PutsWarnings source begin (drop (i + 1) warnings) middle new → PutsWarnings source begin (drop i warnings) old new
next_warned source begin warnings i d {old} {middle} {new} l one rest =
    subst (λ list. PutsWarnings source begin list old new) (sym (drop_more warnings i d l)) (one.0 ∷ rest.0, (one.0, rest.0, refl, one.1, rest.1), puts_then one.2 rest.2)

-- no warning is left
pub none_warned : (source : SourceValue) (begin : ℕ) (warnings : List Warning) (i : ℕ) (lines : LinesValue) → length warnings ≤ i → PutsWarnings source begin (drop i warnings) lines lines
none_warned source begin warnings i lines l = subst (λ list. PutsWarnings source begin list lines lines) (sym (drop_all i warnings l)) ([], refl, puts_nothing lines)
