use Rattle.std.proofs.Common.{◌∙◌}
use Rattle.std.proofs.lemmas.Result.{on_ok_weaker}
use Rattle.logos_attribute.proofs.ReportLemmas.{listed_alone}
use Rattle.logos_attribute.proofs.CallbackLemmas.{span_view}
use Rattle.logos_attribute.proofs.callback.report_again.Goals as goal

pub returns-clause-ok : goal.returns-clause-ok
returns-clause-ok c = on_ok_weaker c.append.result
    (λ e. listed_alone _ _ _ _ _ _ _ c.new-found.ensures c.in_ok-err_also.ensures.ok (rw (c.span.ensures ∙ span_view c.args.former.now) at c.in_ok-err.ensures.ok) e)
    c.append.ensures.ok
