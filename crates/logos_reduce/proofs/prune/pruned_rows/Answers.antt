use Rattle.std.proofs.Common.{◌<◌, ℕ, List, length, slice_index, ap, sym, ◌∙◌, arith}
use Rattle.logos_reduce.specs.inside.Prune.{met_target}
use Rattle.logos_reduce.specs.Rows.{target_by}
use Rattle.logos_reduce.proofs.tables.RowLemmas.{row_placed, rows_length}
use Rattle.logos_reduce.proofs.prune.pruned_rows.Goals as goal

pub returns-clause-len : goal.returns-clause-len
returns-clause-len c =
    let rows = c.args.rows in
    rows_length rows.slots.items c.prune_all.new.rows.items ∙ sym (rows_length rows.slots.items rows.distinct.keys.items)

pub returns-clause-rows : goal.returns-clause-rows
returns-clause-rows c = λ s k l.
    let rows = c.args.rows in
    let m = rows_length rows.slots.items rows.distinct.keys.items in
    let here : s < length rows.slots.items = omega arith in
    let p = rows.placed s (omega arith) in
    ap (λ (row : List ℕ). target_by row k) (row_placed rows.slots.items c.prune_all.new.rows.items s here)
    ∙ c.prune_all.ensures.rows (slice_index rows.slots.items s) k (omega (arith, p))
    ∙ ap (λ (row : List ℕ). met_target c.args.order.now.numbers.items (target_by row k)) (sym (row_placed rows.slots.items rows.distinct.keys.items s here))
