use Rattle.std.proofs.Common.{◌<◌, length, arith}
use Rattle.logos_automaton.specs.DfaView.{dfa_of}
use Rattle.logos_graph.proofs.RawLemmas.{row_target, end_target, rows_more}
use Rattle.logos_graph.proofs.raw_table.raw_rows.Goals as goal
use Rattle.logos_reduce.specs.RowsView.{rows_of}

pub raw_row-requires-clause-few : goal.raw_row-requires-clause-few
raw_row-requires-clause-few c = λ k m.
    let inside : c.loop-state.state < length (dfa_of c.args.dfa.now).matches = omega arith in
    let t = row_target (dfa_of c.args.dfa.now) c.requires.total c.loop-state.state k c.row_at.result.now inside c.row_at.ensures m in
    omega (arith, t.0, c.requires.few)

pub raw_row-requires-clause-end : goal.raw_row-requires-clause-end
raw_row-requires-clause-end c =
    let inside : c.loop-state.state < length (dfa_of c.args.dfa.now).matches = omega arith in
    let t = end_target (dfa_of c.args.dfa.now) c.requires.total c.loop-state.state c.end_at.result inside c.end_at.ensures in
    omega (arith, t, c.requires.few)

pub loop-state-preserved : goal.loop-state-preserved
loop-state-preserved c =
    let inside : c.loop-state.state < length (dfa_of c.args.dfa.now).matches = omega arith in
    rows_more (dfa_of c.args.dfa.now) c.requires.total (rows_of c.loop-state.rows) (rows_of c.push.new.self) c.loop-state.state c.row_at.result.now c.raw_row.result c.end_at.result
    inside c.row_at.ensures c.end_at.ensures c.raw_row.ensures.bytes c.raw_row.ensures.end c.in_ok-push.ensures c.loop-state.invariant
