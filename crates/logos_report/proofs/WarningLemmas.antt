-- The warnings of a part of a file, one after another.
use Rattle.std.proofs.Common.{◌≡◌, Bool, ◌≤◌, ◌<◌, ◌+◌, ℕ, zero, suc, if◌then◌else◌, List, [], ◌∷◌, ◌++◌, length, get_or, drop, refl, sym, ap, ◌∙◌, arith, subst}
use Rattle.std.proofs.lemmas.Bool.{ne_eqb}
use Rattle.std.proofs.Math.Seq.{drop-cons}
use Rattle.std.proofs.Math.ListN.{drop_of_length-le}
use Rattle.logos_report.specs.declared.warnings.Warning.{Warning}
use Rattle.logos_page.specs.Pages.{PageValue}
use Rattle.logos_report.specs.Reports.{Shows}
use Rattle.logos_report.specs.Locations.{SourceValue}
use Rattle.logos_report.specs.Warnings.{all_texts, left_out_line, left_out_texts, warning_texts}
use Rattle.logos_report.proofs.ReportLemmas.{shows_nothing, shows_then}

-- the next warning, and those after it
pub next_warning : (warnings : List Warning) (i : ℕ) (d : Warning) → i < length warnings → drop i warnings ≡ get_or warnings i d ∷ drop (i + 1) warnings
next_warning warnings i d l =
    let k : suc i ≡ i + 1 = omega arith in
    drop-cons warnings i d l ∙ ap (λ n. get_or warnings i d ∷ drop n warnings) k

-- the shown text of the next warning, and of those after it
pub next_warned : (is_colored : Bool) (source : SourceValue) (begin : ℕ) (warnings : List Warning) (i : ℕ) (d : Warning) (old middle new : PageValue) → i < length warnings → d ≡ get_or warnings i d →
    Shows (warning_texts is_colored source begin d) old middle → Shows (all_texts is_colored source begin (drop (i + 1) warnings)) middle new → Shows (all_texts is_colored source begin (drop i warnings)) old new
next_warned is_colored source begin warnings i d old middle new l same s t =
    let one = subst (λ x. Shows (warning_texts is_colored source begin x) old middle) same s in
    subst (λ list. Shows (all_texts is_colored source begin list) old new) (sym (next_warning warnings i d l)) (shows_then one t)

-- no warning is left
pub none_warned : (is_colored : Bool) (source : SourceValue) (begin : ℕ) (warnings : List Warning) (i : ℕ) (page : PageValue) → length warnings ≤ i →
    Shows (all_texts is_colored source begin (drop i warnings)) page page
none_warned is_colored source begin warnings i page l =
    subst (λ list. Shows (all_texts is_colored source begin list) page page) (sym (drop_of_length-le warnings l)) (shows_nothing page)

-- some warnings are left out
pub some_left_out : (is_colored : Bool) (count : ℕ) → 0 < count → left_out_line is_colored count ∷ [] ≡ left_out_texts is_colored count
some_left_out is_colored count l = ap (λ (b : Bool). if b then [] else left_out_line is_colored count ∷ []) (sym (ne_eqb count 0 (λ e. omega (arith, e, l))))

pub none_left_out : (is_colored : Bool) (count : ℕ) → count ≤ 0 → [] ≡ left_out_texts is_colored count
none_left_out is_colored zero l = refl
none_left_out is_colored (suc count) l = absurd (omega (arith, l))
