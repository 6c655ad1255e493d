use Rattle.logos_expand.proofs.GatherLemmas.{whole_refused}
use Rattle.logos_expand.proofs.expansion.refused_whole.Goals as goal

pub returns-in-Ok : goal.returns-in-Ok
returns-in-Ok c = λ shape. c.refused_file.ensures shape (rw c.deref.ensures.value (whole_refused shape c.args.source.now.text c.args.refusal _ _ _ c.new-refused.ensures.items c.requires c.in-Ok.ensures))
