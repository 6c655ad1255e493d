use Rattle.logos_leaf.proofs.subpattern.SubpatternLemmas.{added_alone}
use Rattle.logos_leaf.proofs.subpattern.Subpatterns.new.Goals as goal

pub returns-clause-ok : goal.returns-clause-ok
returns-clause-ok c = added_alone _ _ _ _ c.new-found.ensures c.in_ok-subpatterns.ensures c.in_ok-append.ensures.ok
