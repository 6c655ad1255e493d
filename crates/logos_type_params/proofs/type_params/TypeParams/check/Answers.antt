use Rattle.std.proofs.lemmas.Result.{on_ok_weaker}
use Rattle.logos_type_params.proofs.SettledLemmas.{checked_listed}
use Rattle.logos_type_params.proofs.type_params.TypeParams.check.Goals as goal

pub returns-clause-ok : goal.returns-clause-ok
returns-clause-ok c =
    on_ok_weaker c.append.result
    (λ e. checked_listed c.args.errors.now c.new-found.result c.check_all.new.errors c.append.new.self c.new-found.ensures c.in_ok-check_all.ensures e)
    c.append.ensures.ok
