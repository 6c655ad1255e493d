use Rattle.std.proofs.Common.{◌≡◌, []}
use Rattle.logos_token.specs.Views.{tokens_of}
use Rattle.logos_token.specs.PrinterViews.{printed_of}
use Rattle.logos_token.specs.inside.PrintingSteps.{whole, left_of}
use Rattle.logos_token.proofs.token.printing.print.Given as goal

abbrev pub invariant-trees : goal.invariant-trees
invariant-trees l = whole (printed_of l.printer) l.outer.items (tokens_of l.rest) ≡ whole (record { text = []; gap = [] }) [] (tokens_of l.fn.run)

abbrev pub decreases-trees : goal.decreases-trees
decreases-trees l = left_of l.outer.items (tokens_of l.rest)
