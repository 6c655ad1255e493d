use Rattle.std.proofs.Common.{◌≡◌, map, drop, fold}
use Rattle.logos_token.specs.Printing.{print_part}
use Rattle.logos_type.specs.Parts.{trees, tree_of}
use Rattle.logos_type.specs.Printed.{all_parts}
use Rattle.logos_token.specs.PrinterViews.{printed_of}
use Rattle.logos_type.proofs.printer.+add_part.Given as goal

-- the rest completes the whole
abbrev pub invariant-loop-inner : goal.invariant-loop-inner
invariant-loop-inner l =
    fold print_part (printed_of l.printer) (all_parts (trees (map tree_of (drop l.inner-index l.inner-items)))) ≡ fold print_part (printed_of l.fn.printer) (all_parts (trees (map tree_of l.inner-items)))
