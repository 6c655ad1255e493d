use Rattle.std.proofs.Common.{◌∙◌, List, ℕ, ap, arith}
use Rattle.logos_reduce.specs.Rows.{rows_at}
use Rattle.logos_reduce.proofs.tables.RowLemmas.{rows_pushed}
use Rattle.logos_tables.proofs.rows.StepRows.push.Goals as goal

pub returns : goal.returns
returns c =
    let h = c.in_ok-slot.ensures in
    ap (λ (xs : List ℕ). rows_at xs c.insert_full.new.self.keys) c.in_ok-push.ensures.items
    ∙ rows_pushed c.args.self.now.slots.items c.args.self.now.distinct.keys c.args.row.now _ _ c.in_ok-slot.slot h.stored.0 (λ i l. c.args.self.now.placed i (omega arith)) h.keys h.stored.1 h.stored.2
