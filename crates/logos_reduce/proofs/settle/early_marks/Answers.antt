use Rattle.std.proofs.Common.{◌≡◌, ◌<◌, ℕ, List, [], Option, None, length, slice_index_or, subst, sym, ap, ◌∙◌, arith}
use Rattle.std.proofs.lemmas.Grind.{common_steps}
use Rattle.logos_reduce.specs.Settle.{IsCommon}
use Rattle.logos_reduce.specs.inside.Settle.{IsCommonIn}
use Rattle.logos_reduce.proofs.tables.PushLemmas.{pushed}
use Rattle.logos_reduce.proofs.tables.RowLemmas.{row_placed, rows_length}
use Rattle.logos_reduce.proofs.settle.early_marks.Goals as goal

pub index-requires : goal.index-requires
index-requires c =
    let rows = c.args.table.now.rows in
    let n = rows_length rows.slots.items rows.distinct.keys.items in
    let same = c.args.table.now.same_len in
    let p = rows.placed c.loop-s.s (omega arith) in
    omega (arith, p, c.slot.ensures, c.in_ok-leaves.ensures.len)

pub loop-s-preserved : goal.loop-s-preserved
loop-s-preserved c =
    let table = c.args.table.now in
    let slots = table.rows.slots.items in
    let keys = table.rows.distinct.keys.items in
    let s = c.loop-s.s in
    let n = rows_length slots keys in
    let same = table.same_len in
    let here : s < length slots = omega arith in
    let p = table.rows.placed s (omega (arith, here)) in
    let inside : c.slot.result < length keys = omega (arith, p, c.slot.ensures) in
    let at : c.index.result.now ≡ slice_index_or c.in_ok-leaves.leaves.items c.slot.result None = grind (arith, common_steps) in
    let one = subst (λ (leaf : Option ℕ). IsCommonIn table (slice_index_or keys c.slot.result []) leaf) (sym at) (c.in_ok-leaves.ensures.leaves c.slot.result inside) in
    let row = ap (λ (slot : ℕ). slice_index_or keys slot []) c.slot.ensures ∙ sym (row_placed slots keys s here) in (
      omega (arith, c.in_ok-push.ensures.len),
      pushed (IsCommon table) c.loop-s.early.items c.push.new.self.items c.index.result.now None s
          c.in_ok-push.ensures.items (omega arith) c.loop-s.invariant.1
          (subst (λ (row : List ℕ). IsCommonIn table row c.index.result.now) row one),
    )

pub returns-clause-marks : goal.returns-clause-marks
returns-clause-marks c = λ s l. c.loop-s.invariant.1 s (omega arith)
