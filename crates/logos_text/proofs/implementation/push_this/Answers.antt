use Rattle.logos_text.proofs.FrontLemmas.{named_this, unnamed_this}
use Rattle.logos_text.proofs.implementation.push_this.Goals as goal

pub returns-in_ok-push-in-Some : goal.returns-in_ok-push-in-Some
returns-in_ok-push-in-Some c = named_this c.args.name c.args.this.now c.in-Some.rest c.in-Some.ensures.cases c.in_ok-push_name-in-Some.ensures c.in_ok-push-in-Some.ensures

pub returns-in_ok-push-in-None : goal.returns-in_ok-push-in-None
returns-in_ok-push-in-None c = unnamed_this c.args.name c.args.this.now c.in-None.ensures.cases c.in_ok-push-in-None.ensures
