use Rattle.logos_attribute.proofs.PieceLemmas.{rest_by, rest_first}
use Rattle.logos_attribute.proofs.nested.run_from.Goals as goal

pub before-requires : goal.before-requires
before-requires c = rest_by _ _ _ (rest_first _ _ (rw c.rest.ensures at c.comma_in-end.ensures.parts))

pub returns-clause-run : goal.returns-clause-run
returns-clause-run c = c.before-2.ensures (rest_by _ _ _ (rest_first _ _ (rw c.rest.ensures at c.comma_in-end.ensures.parts)))
