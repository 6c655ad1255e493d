-- The finished text of a page, and the warning about a file without a lexer.
use Rattle.std.proofs.Common.{◌≡◌, ◌↔◌, ◌&&◌, not, ℕ, Bool, true, false, List, [], ◌∷◌, ◌++◌, Result, Ok, Err, IfOk, IsOk, IsTrue, append-nil, refl, sym, ap, ◌∙◌, subst}
use Rattle.logos_file_warnings.specs.Added.{AreMissing, IsMissing}
use Rattle.logos_file_warnings.specs.Warned.{ShowsWarnings, denied_line}
use Rattle.logos_host.specs.declared.message_format.MessageFormat.{MessageFormat}
use Rattle.logos_host.specs.declared.message_format.MessageFormat.TheVariants.{Human, Json}
use Rattle.logos_page.specs.Pages.{PageValue}
use Rattle.logos_report.specs.Locations.{SourceValue}
use Rattle.logos_report.specs.Reports.{InReport, Shows}
use Rattle.logos_report.specs.Warnings.{warnings_texts}
use Rattle.logos_report.specs.declared.warnings.Warning.{Warning}
use Rattle.logos_report.proofs.ReportLemmas.{listed, report_both}

-- the finished text of a page that was empty
pub finished : {A E : Type 0} (f : A → List ℕ) (result : Result A E) (lines : List (List ℕ)) (is_colored : Bool) (old page : PageValue) → old.text ≡ [] → old.is_colored ≡ is_colored → Shows lines old page → (IsOk result ↔ IsTrue page.is_whole) →
    IfOk result (λ text. f text ≡ page.text) → IfOk result (λ text. InReport is_colored lines (f text))
finished f (Ok text) lines is_colored old page empty colored s whole e =
    let a = (s.whole (whole.0 refl)).1 in
    let same : InReport is_colored lines a.0 = subst (λ c. InReport c lines a.0) colored a.2 in
    subst (InReport is_colored lines) (sym (e ∙ a.1 ∙ ap (λ x. x ++ a.0) empty)) same
finished f (Err error) lines is_colored old page empty colored s whole e = tt

-- a report shows warnings
pub human_shown : (format : MessageFormat) (source : SourceValue) (warnings : List Warning) (last : List (List ℕ)) (is_colored : Bool) (text : List ℕ) → format ≡ Human → InReport is_colored (warnings_texts is_colored source 0 warnings ++ last) text → ShowsWarnings format source warnings last text
human_shown Human source warnings last is_colored text e o = (is_colored, o)
human_shown Json source warnings last is_colored text e o = absurd cc

-- with a line at its end it shows them too
pub human_before : {A E : Type 0} (f : A → List ℕ) (result : Result A E) (format : MessageFormat) (source : SourceValue) (warnings : List Warning) (front : List ℕ) → format ≡ Human → ShowsWarnings format source warnings [] front →
    IfOk result (λ text. f text ≡ front ++ denied_line) → IfOk result (λ text. ShowsWarnings format source warnings (denied_line ∷ []) (f text))
human_before f (Ok text) Human source warnings front e s h =
    let lines = warnings_texts s.0 source 0 warnings in
    let own : InReport s.0 lines front = subst (λ (l : List (List ℕ)). InReport s.0 l front) (append-nil lines) s.1 in
    let all : InReport s.0 (lines ++ denied_line ∷ []) (front ++ denied_line) = report_both s.0 lines (denied_line ∷ []) front denied_line own (listed s.0 0 denied_line) in
    (s.0, subst (InReport s.0 (lines ++ denied_line ∷ [])) (sym h) all)
human_before f (Ok text) Json source warnings front e s h = absurd cc
human_before f (Err error) format source warnings front e s h = tt

-- lines of JSON have no line at their end
pub json_alike : (format : MessageFormat) (source : SourceValue) (warnings : List Warning) (one other : List (List ℕ)) (text : List ℕ) → format ≡ Json → ShowsWarnings format source warnings one text → ShowsWarnings format source warnings other text
json_alike Human source warnings one other text e s = absurd cc
json_alike Json source warnings one other text e s = s

-- the warning is requested, and no enum derives `Logos`
pub missing_added : (is_requested has : Bool) (warning : Warning) → is_requested ≡ true → has ≡ false → IsMissing warning → AreMissing (is_requested && not has) (warning ∷ [])
missing_added true false warning r h m = (warning, m, refl)
missing_added true true warning r h m = absurd cc
missing_added false has warning r h m = absurd cc
