use Rattle.std.proofs.Common.{false, ◌∙◌}
use Rattle.logos_hir.specs.Hir.{pairs}
use Rattle.logos_hir.proofs.lemmas.OperandLemmas.{one_more}
use Rattle.logos_hir.proofs.sets.operands.OperandRuns.push.Goals as goal

pub returns : goal.returns
returns c =
    let effect = c.in_ok-effect.effect in
    c.in_ok-push_effect.ensures (λ n. false)
    ∙ one_more c.args.self.now.effects.items c.args.operator (pairs c.args.set.now.ranges.items) (pairs effect.inside.ranges.items) (pairs effect.outside.ranges.items) c.in_ok-effect.ensures
