-- The lines of a report occur in it, in order.
use Rattle.std.proofs.Common.{Bool, ℕ, List, [], ◌∷◌, ◌++◌, append_assoc, codes, sym, ◌∙◌}
use Rattle.logos_page.specs.Pages.{times}
use Rattle.logos_report.specs.Reports.{InReport}
use Rattle.logos_text.specs.Occurrence.{OccurInOrder}

pub occur : (is_colored : Bool) (lines : List (List ℕ)) (whole : List ℕ) → InReport is_colored lines whole → OccurInOrder lines whole
occur is_colored [] whole h = tt
occur is_colored (line ∷ lines) whole (before, blanks, after, is, asides, rest) =
    (before ++ times blanks (codes " "), after, is ∙ sym (append_assoc before (times blanks (codes " ")) (line ++ after)), occur is_colored lines after rest)
