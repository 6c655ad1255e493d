-- The lines of a verdict.
use Rattle.std.proofs.Common.{◌≡◌, ℕ, List, ◌++◌, Result, Ok, Err, OnOk, refl, subst}
use Rattle.logos_answers.specs.Differences.{difference_line}
use Rattle.logos_answers.specs.declared.comparison.Compared.{Compared}
use Rattle.logos_graph.specs.View.{GraphValue}
use Rattle.logos_page.specs.Pages.{Gains, PageValue}
use Rattle.logos_replies.specs.Verdicts.{IsVerdictText, ShowsVerdictText}

-- the line with the input on which two lexers differ, and their findings
pub difference_shown : (one other : GraphValue) (path other_path : List ℕ) (verdict : Compared) (input given : List ℕ) → given ≡ input → (old new : PageValue) →
    ((text : List ℕ) → (findings : List ℕ) × (text ≡ difference_line input ++ findings) → IsVerdictText one other path other_path verdict text) → {T E : Type 0} (result : Result T E) →
    OnOk result ((findings : List ℕ) × Gains (difference_line given ++ findings) old new) → OnOk result (ShowsVerdictText one other path other_path verdict old new)
difference_shown one other path other_path verdict input given e old new is (Ok x) h =
    (difference_line input ++ h.0, is (difference_line input ++ h.0) (h.0, refl), subst (λ bytes. Gains (difference_line bytes ++ h.0) old new) e h.1)
difference_shown one other path other_path verdict input given e old new is (Err x) h = tt
