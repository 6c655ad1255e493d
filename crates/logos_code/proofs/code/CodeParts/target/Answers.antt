use Rattle.std.proofs.Common.{map, arith}
use Rattle.logos_code.specs.Code.{by_conditions}
use Rattle.logos_code.specs.Headline.{NamesFork}
use Rattle.logos_code.specs.CodeView.{branch_of, code_of}
use Rattle.logos_code.proofs.CodeLemmas.{table_there}
use Rattle.logos_code.proofs.RowLemmas.{target_named}
use Rattle.logos_code.proofs.code.CodeParts.target.Goals as goal

pub first_target-requires : goal.first_target-requires
first_target-requires c = rw c.deref.ensures.value (rw c.in-Conditions.is at c.requires)

pub returns-in-Conditions-clause-there : goal.returns-in-Conditions-clause-there
returns-in-Conditions-clause-there c =
    let code = code_of c.args.self.now in
    let names : NamesFork code (by_conditions (map branch_of c.in-Conditions.branches.items)) = rw c.in-Conditions.is at c.requires in
    target_named code (by_conditions (map branch_of c.in-Conditions.branches.items)) c.args.byte c.first_target.result names (rw c.deref.ensures.value at c.first_target.ensures)

pub index-requires : goal.index-requires
index-requires c =
    let h = table_there (code_of c.args.self.now) c.args.self.now.jump_tables.items c.in-Table.k (rw c.in-Table.is at c.requires) in
    omega (arith, h, c.args.self.now.jump_tables.ok)
