use Rattle.std.proofs.Common.{◌≡◌, ◌∙◌, arith}
use Rattle.logos_hir.specs.Hir.{pairs}
use Rattle.logos_positions.specs.Table.{reader_of}
use Rattle.logos_positions.proofs.trees.IsCoreLemmas.{core_bytes}
use Rattle.logos_positions.proofs.classes.ClassLemmas.{core_class}
use Rattle.logos_positions.proofs.trees.NodeLemmas.{core-Bytes, core-Characters}
use Rattle.logos_positions.proofs.preparation.prepare_class.Goals as goal

pub returns-in_ok-from_slice-in-Bytes-clause-occurs : goal.returns-in_ok-from_slice-in-Bytes-clause-occurs
returns-in_ok-from_slice-in-Bytes-clause-occurs c =
    let same : c.in_ok-from_slice-in-Bytes.field-0.items ≡ c.in-Bytes.ranges.items = c.in_ok-from_slice-in-Bytes.ensures.items ∙ c.deref.ensures.value in
    rw (c.in-Bytes.is, core-Bytes c.in_ok-from_slice-in-Bytes.field-0, same) (core_bytes (pairs c.in-Bytes.ranges.items))

pub returns-in_ok-table_of-in-Characters-clause-occurs : goal.returns-in_ok-table_of-in-Characters-clause-occurs
returns-in_ok-table_of-in-Characters-clause-occurs c =
    let t = c.in_ok-table_of-in-Characters.field-0 in
    rw (c.in-Characters.is, core-Characters t)
    (core_class (pairs c.in-Characters.ranges.items) (reader_of t) (rw c.deref-in-Characters.ensures.value at c.in_ok-table_of-in-Characters.ensures) (omega (arith, t.few)))
