use Rattle.std.proofs.Common.{arith}
use Rattle.logos_tables.proofs.made.tables_of.Goals as goal

pub returns : goal.returns
returns c =
    let rows = c.in_ok-rows.rows in
    record {
      rows = c.in_ok-rows.ensures;
      placed = λ i l. rows.placed i (omega (arith, l, rows.slots.ok.0));
      classes = rw c.as_slice.ensures.keys at c.in_ok-classes.ensures;
      of_classes = rw c.deref.ensures.value at c.in_ok-class_runs.ensures;
      of_rows = rw (c.deref-2.ensures.value, c.as_slice-2.ensures.keys) at c.in_ok-runs.ensures;
    }
