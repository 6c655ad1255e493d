use Rattle.std.proofs.Common.{inr, refl, subst}
use Rattle.logos_expand.specs.FileWarnings.{AreFileWarnings}
use Rattle.logos_expand.proofs.FileWarningLemmas.{requested}
use Rattle.logos_expand.proofs.expansion.denied_file.Goals as goal

pub returns-in-Ok : goal.returns-in-Ok
returns-in-Ok c = λ shape are.
    let all = subst (λ r. AreFileWarnings shape r c.args.source.now.text c.args.warned.now) (requested c.args.showing.denies c.args.showing.format c.requires.denies) are in
    inr (refl, inr (c.requires.denies, (c.args.warned.now, all, c.requires.some, c.in-Ok.ensures)))
