use Rattle.std.proofs.Common.{ℕ, sym, subst}
use Rattle.logos_scan.specs.Attempts.{ComesTo}
use Rattle.logos_scan.proofs.LoadLemmas.{root_is_row_start}
use Rattle.logos_scan.proofs.AttemptLemmas.{is_at_begun}
use Rattle.logos_scan.proofs.run.restarted.Goals as goal

pub filled-requires-clause-is_at : goal.filled-requires-clause-is_at
filled-requires-clause-is_at c =
    subst (λ (p : ℕ). ComesTo c.args.reading.now.code.now c.args.reading.now.input.now c.args.to c.args.to p) (sym c.root_row_start.ensures.row_start)
    (is_at_begun c.args.reading.now.code.now c.requires.reading.sound c.args.reading.now.input.now c.args.to c.requires.within)

pub filled-requires-clause-row_start : goal.filled-requires-clause-row_start
filled-requires-clause-row_start c = rw c.root_row_start.ensures.row_start (root_is_row_start c.args.reading.now.code.now c.args.reading.now.rows.now c.requires.reading)
