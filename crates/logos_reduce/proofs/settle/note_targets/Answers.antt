use Rattle.std.proofs.Common.{◌≡◌, ℕ, ◌⊎◌, inl, inr, Bool, true, false, Some, slice_index_or, refl, arith}
use Rattle.logos_reduce.specs.Table.{to, mark}
use Rattle.logos_reduce.specs.inside.Settle.{IsSet}
use Rattle.logos_reduce.specs.Settle.{IsSpare}
use Rattle.logos_reduce.specs.declared.rows.Rows.{Rows}
use Rattle.logos_reduce.specs.RowsView.{rows_of}
use Rattle.logos_reduce.proofs.tables.RowLemmas.{symbol_below, rows_wide}
use Rattle.logos_reduce.proofs.settle.note_targets.Goals as goal

pub returns-clause-spare : goal.returns-clause-spare
returns-clause-spare c = λ t. go t (slice_index_or c.loop-k.needed.items t false) refl
  where
    rows : Rows
    rows = c.args.table.now.rows

    go : (t : ℕ) (b : Bool) → slice_index_or c.loop-k.needed.items t false ≡ b → IsSet c.loop-k.needed.items t ⊎ IsSpare c.args.table.now c.args.s c.args.early t
    go t true e = inl e
    go t false e = inr (λ k q. at k q (c.loop-k.invariant.3 k t (let l = symbol_below (rows_of rows) (rows_wide rows.slots.items rows.distinct.keys (λ i l. rows.placed i (omega arith)) rows.wide) c.args.s k t q in omega arith) q))
      where
        at : (k : ℕ) → to c.args.table.now c.args.s k ≡ Some t → IsSet c.loop-k.needed.items t ⊎ ((mark c.args.table.now t).accept ≡ c.args.early) → (mark c.args.table.now t).accept ≡ c.args.early
        at k q (inl h) = absurd (cc)
        at k q (inr h) = h
