use Rattle.std.proofs.Common.{arith}
use Rattle.logos_code.specs.CodeView.{code_of}
use Rattle.logos_code.proofs.CodeLemmas.{table_there}
use Rattle.logos_code.proofs.code.CodeParts.fork_end.Goals as goal

pub branches_end-requires-clause-there : goal.branches_end-requires-clause-there
branches_end-requires-clause-there c = rw c.deref.ensures.value (rw c.in-Conditions.is at c.requires.there)

pub index-requires : goal.index-requires
index-requires c =
    let h = table_there (code_of c.args.self.now) c.args.self.now.jump_tables.items c.in-Table.k (rw c.in-Table.is at c.requires.there) in
    omega (arith, h, c.args.self.now.jump_tables.ok)

pub returns-in-Conditions : goal.returns-in-Conditions
returns-in-Conditions c = rw c.in-Conditions.is (rw c.deref.ensures.value at c.branches_end.ensures)
