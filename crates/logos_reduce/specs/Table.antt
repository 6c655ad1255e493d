-- A table as the graph that it represents.
use Rattle.std.specs.Prelude.{ℕ, List, Option, None, slice_index_or, vec_len}
use Rattle.logos_reduce.specs.Edges.{StateType, Edges}
use Rattle.logos_reduce.specs.Rows.{target_in}
use Rattle.logos_reduce.specs.RowsView.{rows_of}
use Rattle.logos_reduce.specs.declared.table.StateMarks.{StateMarks}
use Rattle.logos_reduce.specs.declared.table.Table.{Table}

-- The mark at an index.
abbrev pub mark_in : List StateMarks → ℕ → StateMarks
mark_in marks s = slice_index_or marks s (record { accept = None; early = None })

-- The number of states of a table.
abbrev pub size : Table → ℕ
size table = vec_len table.marks

-- The target of a state on a symbol.
abbrev pub to : Table → ℕ → ℕ → Option ℕ
to table = target_in (rows_of table.rows)

-- The mark of a state.
abbrev pub mark : Table → ℕ → StateMarks
mark table = mark_in table.marks.items

-- The type of a state with this mark.
abbrev pub type_of : StateMarks → StateType
type_of m = record { accept = m.accept; early = m.early }

-- The graph that a table represents.
abbrev pub edges : Table → Edges ℕ
edges table = record {
  type_of = λ s. type_of (mark table s);
  next = to table;
  at_end = λ s. to table s 256;
}
