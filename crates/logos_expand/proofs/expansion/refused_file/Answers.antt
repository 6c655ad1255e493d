use Rattle.std.proofs.Common.{inl, inr, refl}
use Rattle.logos_expand.proofs.expansion.refused_file.Goals as goal

pub returns-in-Ok : goal.returns-in-Ok
returns-in-Ok c = λ shape are. inr (refl, inl (record { refused = c.args.refused.now; are = are; occur = c.in-Ok.ensures }))
