use Rattle.logos_laws.proofs.readings.BranchLaws.{alternation_same}
use Rattle.logos_laws.proofs.readings.BuilderLaws.{concat_same, repetition_same}
use Rattle.logos_laws.proofs.readings.builders_change_no_match.Goals as goal

pub returns-clause-parts : goal.returns-clause-parts
returns-clause-parts c parts bytes from to = concat_same bytes parts from to

pub returns-clause-branches : goal.returns-clause-branches
returns-clause-branches c branches bytes ok from to = alternation_same bytes ok branches from to

pub returns-clause-counts : goal.returns-clause-counts
returns-clause-counts c least most greedy body bytes from to h = repetition_same bytes least most greedy body from to h
