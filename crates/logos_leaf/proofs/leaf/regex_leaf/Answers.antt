use Rattle.logos_leaf.proofs.LeafLemmas.{regex_alone}
use Rattle.logos_leaf.proofs.leaf.regex_leaf.Goals as goal

pub returns-in-Ok-clause-ok : goal.returns-in-Ok-clause-ok
returns-in-Ok-clause-ok c = regex_alone _ _ _ _ c.new-found.ensures c.in_ok-leaf.ensures c.in-Ok.ensures.ok
