use Rattle.logos_code.specs.Headline.{NamesCondition, NamesState}
use Rattle.logos_code.specs.CodeView.{branch_of, code_of}
use Rattle.logos_code.proofs.CodeLemmas.{All-map}
use Rattle.logos_code.proofs.code.CodeParts.first_target.Goals as goal

pub passes-requires : goal.passes-requires
passes-requires c =
    (All-map (λ branch. NamesCondition (code_of c.args.self.now) branch.0 × NamesState (code_of c.args.self.now) branch.1) branch_of c.args.branches.now
    c.loop-condition.condition-index c.loop-condition-item.result c.requires c.loop-condition-test.true c.loop-condition-item.is).0
