use Rattle.logos_code.specs.CodeView.{code_of, state_of}
use Rattle.logos_code.proofs.RowLemmas.{entry_describes}
use Rattle.logos_code.proofs.code.rows.entry_at.Goals as goal

pub returns : goal.returns
returns c =
    entry_describes (code_of c.args.parts.now) (state_of c.args.parts.now.jump_tables.items c.args.state.now) c.args.byte c.entry_of_step.result c.step.result c.entry_of_step.ensures c.step.ensures
