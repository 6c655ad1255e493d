use Rattle.std.proofs.Common.{arith}
use Rattle.logos_code.specs.CodeView.{code_of}
use Rattle.logos_code.proofs.CodeLemmas.{root_there}
use Rattle.logos_code.proofs.code.Code.root_row_start.Goals as goal

pub overflow_mul-result : goal.overflow_mul-result
overflow_mul-result c =
    let there = root_there (code_of c.self.inside.parts) c.self.invariant.valid.sound in
    let count = c.self.invariant.all_rows.count in
    omega (arith, there, count)

pub returns-clause-row_start : goal.returns-clause-row_start
returns-clause-row_start c = rw (← c.self.view_is) (omega arith)

pub returns-clause-state : goal.returns-clause-state
returns-clause-state c = rw (← c.self.view_is) (omega arith)
