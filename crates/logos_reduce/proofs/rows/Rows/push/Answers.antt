use Rattle.std.proofs.Common.{◌∙◌, ◌++◌, ◌∷◌, [], List, ℕ, Vec, Global, ap, arith}
use Rattle.logos_reduce.specs.Rows.{rows_at}
use Rattle.logos_reduce.proofs.tables.RowLemmas.{rows_added}
use Rattle.logos_reduce.proofs.rows.Rows.push.Goals as goal

pub returns : goal.returns
returns c =
    let old = c.args.self.now in
    let rows = c.slot_of.new.self.distinct.keys.items in
    ap (λ (xs : List ℕ). rows_at xs rows) c.in_ok-push.ensures.items
    ∙ ap (λ (slots : Vec ℕ Global). rows_at (slots.items ++ c.in_ok-slot.slot ∷ []) rows) c.slot_of.ensures.slots
    ∙ rows_added old.slots.items old.distinct.keys.items c.args.row.now rows c.in_ok-slot.slot (λ i l. old.placed i (omega arith)) (λ i l. c.in_ok-slot.ensures.rows i (omega arith)) c.in_ok-slot.ensures.slot.1
