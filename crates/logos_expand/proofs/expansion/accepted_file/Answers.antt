use Rattle.logos_expand.proofs.expansion.accepted_file.Goals as goal

pub returns-then-not-is_empty-clause-denied : goal.returns-then-not-is_empty-clause-denied
returns-then-not-is_empty-clause-denied c = c.denied_file.ensures c.args.shape c.requires.warns
