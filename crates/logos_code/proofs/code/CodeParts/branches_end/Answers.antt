use Rattle.std.proofs.Common.{map, arith}
use Rattle.std.proofs.lemmas.List.{length-map}
use Rattle.logos_code.specs.Headline.{NamesCondition, NamesState}
use Rattle.logos_code.specs.CodeView.{branch_of, code_of}
use Rattle.logos_code.proofs.AlikeLemmas.{branch_turn, branches_done, mapped_at}
use Rattle.logos_code.proofs.CodeLemmas.{All-map}
use Rattle.logos_code.proofs.code.CodeParts.branches_end.Goals as goal

pub condition_end-until-requires-clause-there : goal.condition_end-until-requires-clause-there
condition_end-until-requires-clause-there c =
    (All-map (λ branch. NamesCondition (code_of c.args.self.now) branch.0 × NamesState (code_of c.args.self.now) branch.1) branch_of c.args.branches.now
    c.loop-condition.condition-index c.loop-condition-item.result c.requires.there c.loop-condition-test.true c.loop-condition-item.is).0

pub loop-condition-preserved : goal.loop-condition-preserved
loop-condition-preserved c =
    branch_turn (code_of c.args.self.now) (map branch_of c.args.branches.now) c.loop-condition.condition-index (branch_of c.loop-condition-item.result) c.args.byte c.args.end c.loop-condition.until
    c.condition_end-until.result (rw length-map c.loop-condition-test.true)
    (mapped_at branch_of c.args.branches.now c.loop-condition.condition-index c.loop-condition-item.result c.loop-condition-test.true c.loop-condition-item.is)
    c.condition_end-until.ensures c.loop-condition.invariant

pub returns : goal.returns
returns c =
    branches_done (code_of c.args.self.now) (map branch_of c.args.branches.now) c.loop-condition.condition-index c.args.byte c.args.end c.loop-condition.until
    (rw length-map (omega (arith, c.loop-condition-test.false))) c.loop-condition.invariant
