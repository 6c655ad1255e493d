use Rattle.std.proofs.lemmas.Result.{on_ok_weaker}
use Rattle.logos_type_params.specs.TypeParams.{no_type}
use Rattle.logos_type_params.proofs.type_params.report_no_type.Goals as goal

pub returns-in-Unsupported-clause-ok : goal.returns-in-Unsupported-clause-ok
returns-in-Unsupported-clause-ok c = on_ok_weaker c.report_syntax.result (λ e. no_type (rw c.in-Unsupported.is at c.requires) e) c.report_syntax.ensures.ok

pub returns-in-Mismatch-clause-ok : goal.returns-in-Mismatch-clause-ok
returns-in-Mismatch-clause-ok c = on_ok_weaker c.report_syntax-in-Mismatch.result (λ e. no_type (rw c.in-Mismatch.is at c.requires) e) c.report_syntax-in-Mismatch.ensures.ok

pub returns-in-LimitNesting-clause-ok : goal.returns-in-LimitNesting-clause-ok
returns-in-LimitNesting-clause-ok c = on_ok_weaker c.report_depth.result (λ e. no_type (rw c.in-LimitNesting.is at c.requires) e) c.report_depth.ensures.ok
