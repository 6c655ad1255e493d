use Rattle.std.proofs.Common.{arith}
use Rattle.logos_code.specs.CodeView.{code_of}
use Rattle.logos_code.proofs.CodeLemmas.{table_there}
use Rattle.logos_code.proofs.code.last_marks.fork_agrees.Goals as goal

pub index-requires : goal.index-requires
index-requires c =
    let h = table_there (code_of c.args.parts.now) c.args.parts.now.jump_tables.items c.in-Table.k (rw c.in-Table.is at c.requires) in
    omega (arith, h, c.args.parts.now.jump_tables.ok)
