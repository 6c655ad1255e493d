use Rattle.logos_warnings.proofs.MistakeLemmas.{add_variant, added_all}
use Rattle.logos_warnings.proofs.mistakes.report_variants.Goals as goal

pub loop-rest-preserved : goal.loop-rest-preserved
loop-rest-preserved c = λ after more.
    c.loop-rest.invariant after (add_variant c.loop-rest.rest.now c.variant-item.result c.in-len1-up.len_at_least c.variant-item.is c.in_ok-report_variant.ensures more)

pub returns : goal.returns
returns c = c.loop-rest.invariant _ (added_all c.loop-rest.rest.now c.in_default.len_below)
