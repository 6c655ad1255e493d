use Rattle.std.proofs.Common.{sym, subst}
use Rattle.logos_attempts.specs.Around.{LeadsTo, begins, passes}
use Rattle.logos_attempts.proofs.around.found_around.Goals as goal

pub loop-at-init : goal.loop-at-init
loop-at-init c = begins

pub loop-at-preserved : goal.loop-at-preserved
loop-at-preserved c =
    let f = c.found_at-found.ensures in
    passes c.found_at-found.result (subst (λ n. LeadsTo c.args.code.now c.args.input.now n) (sym f.from) c.loop-at.invariant) f.finds
