use Rattle.std.proofs.Common.{refl, rules}
use Rattle.logos_expand.proofs.FileWarningLemmas.{lexer_warned, other_warned, refused_warned}
use Rattle.logos_expand.proofs.GatherLemmas.{refuses_one, stays_one, yields_one}
use Rattle.logos_expand.proofs.expansion.gather_enum.Goals as goal

pub returns-then-not-one-clause-gathers : goal.returns-then-not-one-clause-gathers
returns-then-not-one-clause-gathers c = stays_one _ _ _ _ (search rules)

pub returns-then-not-one-clause-warns : goal.returns-then-not-one-clause-warns
returns-then-not-one-clause-warns c = other_warned _ _ _ _ _ _ _ (search rules) (search rules) c.in_ok-add_text.ensures

pub returns-in_ok-push-in-Ok-clause-gathers : goal.returns-in_ok-push-in-Ok-clause-gathers
returns-in_ok-push-in-Ok-clause-gathers c = yields_one _ _ _ _ _ _ _ (search rules) (search rules) refl c.in-Ok.ensures.done c.in_ok-push-in-Ok.ensures.items refl

pub returns-in_ok-push-in-Ok-clause-warns : goal.returns-in_ok-push-in-Ok-clause-warns
returns-in_ok-push-in-Ok-clause-warns c = lexer_warned _ _ _ _ _ _ _ _ (search rules) (search rules) c.in-Ok.ensures.warns refl

pub returns-in_ok-push_refusal-in-Err-clause-gathers : goal.returns-in_ok-push_refusal-in-Err-clause-gathers
returns-in_ok-push_refusal-in-Err-clause-gathers c = refuses_one c.args.site.shape c.args.text.now c.args.one c.in-Err.refusal c.in_ok-clues-in-Err.clues _ _ _ (search rules) (search rules) c.in-Err.ensures.refused c.in_ok-clues-in-Err.ensures.sets c.in_ok-push_refusal-in-Err.ensures refl

pub returns-in_ok-push_refusal-in-Err-clause-warns : goal.returns-in_ok-push_refusal-in-Err-clause-warns
returns-in_ok-push_refusal-in-Err-clause-warns c = refused_warned c.args.site.shape c.args.text.now c.args.one c.in-Err.refusal c.in_ok-clues-in-Err.clues _ _ _ _ _ (search rules) c.in-Err.ensures.silent c.in_ok-clues-in-Err.ensures.warns c.in_ok-push_refusal-in-Err.ensures
