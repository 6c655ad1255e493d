use Rattle.logos_expand.proofs.expansion.expand.Goals as goal

pub refused_whole-requires : goal.refused_whole-requires
refused_whole-requires c = rw c.text.ensures at c.in-Err.ensures.unreadable

pub returns-in-Err-clause-denied : goal.returns-in-Err-clause-denied
returns-in-Err-clause-denied c = c.refused_whole.ensures c.args.shape
