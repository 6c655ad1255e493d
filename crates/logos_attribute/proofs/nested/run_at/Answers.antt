use Rattle.logos_attribute.proofs.PieceLemmas.{rest_by}
use Rattle.logos_attribute.proofs.nested.run_at.Goals as goal

pub returns-clause-run : goal.returns-clause-run
returns-clause-run c = c.before-2.ensures (rest_by _ _ _ c.comma_in-end.ensures.parts)
