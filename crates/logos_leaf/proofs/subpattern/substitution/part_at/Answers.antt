use Rattle.logos_leaf.proofs.subpattern.SubstitutionLemmas.{part_used, used_shorter}
use Rattle.logos_leaf.proofs.subpattern.substitution.part_at.Goals as goal

pub returns-in-Some : goal.returns-in-Some
returns-in-Some c = (part_used _ _ _ _ _ c.in_ok-first.ensures.cases.0 c.in-Some.ensures.0 c.in-Some.ensures.1, used_shorter _ _ _ _ _ c.in_ok-first.ensures.cases.0 c.in-Some.ensures.1)
