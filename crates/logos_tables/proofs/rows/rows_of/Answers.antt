use Rattle.std.proofs.Common.{◌≡◌, ◌∙◌, ◌∷◌, [], length, ap, arith, length-append}
use Rattle.logos_tables.specs.RowsView.{rows_of}
use Rattle.logos_tables.proofs.RowLemmas.{rows_turn}
use Rattle.logos_tables.proofs.rows.rows_of.Goals as goal

pub loop-state-preserved : goal.loop-state-preserved
loop-state-preserved c =
    let i = c.loop-state.invariant in
    let old = rows_of c.loop-state.rows in
    let is = c.in_ok-push.ensures in
    let count = i.count in
    record {
      count = ap length is ∙ omega (arith, count, length-append old (c.steps_of.result ∷ []));
      are = rows_turn c.args.code.now old (rows_of c.push.new.self) c.steps_of.result c.loop-state.state count is c.steps_of.ensures i.are;
    }

pub returns : goal.returns
returns c =
    let i = c.loop-state.invariant in
    let all : c.loop-state.state ≡ length c.args.code.now.states = omega (arith, c.loop-state.auto.state-end, c.loop-state-test.false, c.state_count-state-end.ensures) in
    record { count = i.count ∙ all; are = λ s h. i.are s (omega (arith, h, all)) }
