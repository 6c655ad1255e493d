use Rattle.std.proofs.Common.{rules}
use Rattle.logos_hir.proofs.property.perl_set.Goals as goal

pub returns-in_err-digit_ranges-in-Digit-true : goal.returns-in_err-digit_ranges-in-Digit-true
returns-in_err-digit_ranges-in-Digit-true c = search rules

pub returns-in_err-space_ranges-in-Space-true : goal.returns-in_err-space_ranges-in-Space-true
returns-in_err-space_ranges-in-Space-true c = search rules

pub returns-in_err-word_ranges-in-Word-true : goal.returns-in_err-word_ranges-in-Word-true
returns-in_err-word_ranges-in-Word-true c = search rules

pub returns-in_ok-digit_ranges-in-Digit-true : goal.returns-in_ok-digit_ranges-in-Digit-true
returns-in_ok-digit_ranges-in-Digit-true c = search rules

pub returns-in-Digit-false : goal.returns-in-Digit-false
returns-in-Digit-false c = search rules

pub returns-in_ok-space_ranges-in-Space-true : goal.returns-in_ok-space_ranges-in-Space-true
returns-in_ok-space_ranges-in-Space-true c = search rules

pub returns-in-Space-false : goal.returns-in-Space-false
returns-in-Space-false c = search rules

pub returns-in_ok-word_ranges-in-Word-true : goal.returns-in_ok-word_ranges-in-Word-true
returns-in_ok-word_ranges-in-Word-true c = search rules

pub returns-in-Word-false : goal.returns-in-Word-false
returns-in-Word-false c = search rules
