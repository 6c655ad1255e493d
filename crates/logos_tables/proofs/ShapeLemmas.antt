-- The text of a code as code.
use Rattle.std.proofs.Common.{List, [], ℕ, Result, Ok, Err, IfOk}
use Rattle.logos_code.specs.Code.{CodeValue}
use Rattle.logos_tables.specs.Shapes.{IsCodeText}
use Rattle.logos_text.specs.Fronts.{AroundValue, BeginsWith, opening_text, short_core}
use Rattle.logos_text.specs.Occurrence.{OccurInOrder}
use Rattle.logos_text.specs.Texts.{texts_of}
use Rattle.logos_type.specs.Printed.{printed_type}
use Rattle.logos_type.specs.TypeTrees.{type_tree}

-- the facts about the text of a code, together
pub code_shown : {S E : Type 0} (view : S → List ℕ) (around : AroundValue) (code : CodeValue) (result : Result S E) → IfOk result (λ text. OccurInOrder (texts_of code) (view text)) →
    IfOk result (λ text. BeginsWith (opening_text [] short_core around (printed_type (type_tree code.header.this))) (view text)) →
    IfOk result (λ text. IsCodeText around code (view text))
code_shown view around code (Ok text) occur begins = record { occur = occur; begins = begins }
code_shown view around code (Err error) occur begins = tt
