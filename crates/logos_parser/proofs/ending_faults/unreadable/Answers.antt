use Rattle.logos_parser.proofs.RefusalLemmas.{lexical_ends, nesting_ends}
use Rattle.logos_parser.proofs.ending_faults.unreadable.Goals as goal

pub returns-in-Lexical-clause-ends : goal.returns-in-Lexical-clause-ends
returns-in-Lexical-clause-ends c =
    lexical_ends c.args.src.now c.in-Lexical.kind c.in-Lexical.span _ (rw c.in-Lexical.is at c.requires) c.unlexed.ensures

pub returns-in-LimitTokenNesting-clause-ends : goal.returns-in-LimitTokenNesting-clause-ends
returns-in-LimitTokenNesting-clause-ends c =
    nesting_ends c.args.src.now c.in-LimitTokenNesting.span _ (rw c.in-LimitTokenNesting.is at c.requires) c.refused-in-LimitTokenNesting.ensures
