use Rattle.std.proofs.Common.{[], ◌∷◌, ◌++◌, ◌∙◌, List, ap}
use Rattle.std.proofs.lemmas.Result.{on_ok_weaker}
use Rattle.logos_token.specs.Faults.{Fault}
use Rattle.logos_type_params.specs.TypeParams.{named_of, type_twice, previous}
use Rattle.logos_type_params.proofs.type_params.report_twice.Goals as goal

pub returns-clause-ok : goal.returns-clause-ok
returns-clause-ok c = on_ok_weaker c.append.result
    (λ e. e ∙ ap (λ (x : List Fault). c.args.errors.now ++ x) (c.in_ok-report_previous.ensures.ok ∙ ap (λ (x : List Fault). x ++ previous c.args.former ∷ [])
    (c.in_ok-report_about.ensures.ok ∙ ap (λ (x : List Fault). x ++ type_twice (named_of c.args.name) ∷ []) c.new-found.ensures)))
    c.append.ensures.ok
