use Rattle.logos_code.specs.CodeView.{code_of, state_of}
use Rattle.logos_code.proofs.RowLemmas.{run_turn}
use Rattle.logos_code.proofs.code.rows.row_of.Goals as goal

pub loop-b-preserved : goal.loop-b-preserved
loop-b-preserved c =
    let code = code_of c.args.parts.now in
    let state = state_of c.args.parts.now.jump_tables.items c.args.state.now in
    let loop = c.run_end-end.ensures.stays in (
      loop.1,
      run_turn code state c.loop-b.row c.fill.new.row c.loop-b.b c.run_end-end.result c.entry_at.result loop c.run_end-end.ensures.leads c.entry_at.ensures
          c.fill.ensures.inside c.fill.ensures.before c.loop-b.invariant.1,
    )
