use Rattle.logos_code.proofs.CodeLemmas.{state_names}
use Rattle.logos_code.proofs.code.Code.fast_loop.Goals as goal

pub returns-clause-there : goal.returns-clause-there
returns-clause-there c =
    rw c.self.view_is at ((state_names c.self.inside.parts c.args.state c.index.result.now c.self.invariant.valid.sound (rw (← c.self.view_is) at c.requires) c.index.ensures).fast_loop)
