-- The ends of the edges of a table.
use Rattle.std.proofs.Common.{◌≡◌, ℕ, ◌<◌, ◌≤◌, Option, None, Some, option_map, refl, arith}
use Rattle.std.proofs.lemmas.List.{get_or_past}
use Rattle.logos_reduce.specs.Merge.{target_block}
use Rattle.logos_reduce.specs.Table.{size, to, mark}
use Rattle.logos_reduce.specs.RowsView.{rows_of}
use Rattle.logos_reduce.specs.declared.table.Table.{Table}
use Rattle.logos_reduce.proofs.tables.RowLemmas.{symbol_below, source_below, rows_wide, no_source}

pub edge_within : (table : Table) (s k t : ℕ) → to table s k ≡ Some t → (s < size table) × (t < size table)
edge_within table s k t e =
    let l = source_below (rows_of table.rows) s k t e in
    let n = table.same_len in
    let here : s < size table = omega arith in
    (here, table.closed s k t here e)

pub edge_symbol : (table : Table) (s k t : ℕ) → to table s k ≡ Some t → k < 257
edge_symbol table s k t e =
    symbol_below (rows_of table.rows) (rows_wide table.rows.slots.items table.rows.distinct.keys (λ i l. table.rows.placed i (omega arith)) table.rows.wide) s k t e

pub no_edge : (table : Table) (s k : ℕ) → size table ≤ s → to table s k ≡ None
no_edge table s k l = let n = table.same_len in no_source (rows_of table.rows) s k (omega arith)

pub unmarked_past : (table : Table) (s : ℕ) → size table ≤ s → mark table s ≡ record { accept = None; early = None }
unmarked_past table s l = get_or_past table.marks.items s (record { accept = None; early = None }) (let w = table.marks.ok.0 in omega arith)

-- the block of a target
pub led_symbol : (table : Table) (block : ℕ → ℕ) (s k b : ℕ) → target_block table block s k ≡ Some b → k < 257
led_symbol table block s k b e = go (to table s k) refl e
  where
    go : (o : Option ℕ) → to table s k ≡ o → option_map block o ≡ Some b → k < 257
    go None q e = absurd (cc)
    go (Some t) q e = edge_symbol table s k t q

pub led_target : (table : Table) (block : ℕ → ℕ) (s k b : ℕ) → target_block table block s k ≡ Some b → (t : ℕ) × (to table s k ≡ Some t) × (t < size table) × (block t ≡ b)
led_target table block s k b e = go (to table s k) refl e
  where
    go : (o : Option ℕ) → to table s k ≡ o → option_map block o ≡ Some b → (t : ℕ) × (to table s k ≡ Some t) × (t < size table) × (block t ≡ b)
    go None q e = absurd (cc)
    go (Some t) q e = (t, q, (edge_within table s k t q).1, let same : block t ≡ b = cc in same)
