-- The rows of a list, in their order.
use Rattle.std.specs.Prelude.{ℕ, List}
use Rattle.logos_reduce.specs.Rows.{rows_at}
use Rattle.logos_reduce.specs.declared.rows.Rows.{Rows}

-- The rows of a list, in their order.
abbrev pub rows_of : Rows → List (List ℕ)
rows_of rows = rows_at rows.slots.items rows.distinct.keys.items
