use Rattle.std.proofs.Common.{◌≡◌, ◌<◌, ◌∙◌, length, ap, arith, length-append, rules}
use Rattle.std.proofs.lemmas.List.{length-map}
use Rattle.logos_code.proofs.CodeLemmas.{state_names}
use Rattle.logos_code.proofs.RowLemmas.{rows_turn}
use Rattle.logos_code.proofs.code.rows.rows_of.Goals as goal

pub row_of-requires : goal.row_of-requires
row_of-requires c =
    let h : c.loop-state.state-index < length c.args.parts.now.states.items = rw c.deref-state-items.ensures.value at c.loop-state-test.true in
    state_names c.args.parts.now c.loop-state.state-index c.state-item.result c.requires (rw length-map h) (rw c.deref-state-items.ensures.value at c.state-item.is)

pub loop-state-preserved : goal.loop-state-preserved
loop-state-preserved c =
    let h : c.loop-state.state-index < length c.args.parts.now.states.items = rw c.deref-state-items.ensures.value at c.loop-state-test.true in
    let i = c.loop-state.invariant in
    let items = c.in_ok-extend_from_slice.ensures.items in
    let count = i.count in
    let long : length c.row_of.result ≡ 272 = search rules in
    record {
      count = ap length items ∙ omega (arith, count, long, length-append c.loop-state.rows.items c.row_of.result);
      each = rows_turn c.args.parts.now c.loop-state.rows.items c.extend_from_slice.new.self.items c.row_of.result c.loop-state.state-index c.state-item.result
          count items h (rw c.deref-state-items.ensures.value at c.state-item.is) c.row_of.ensures i.each;
    }
