use Rattle.logos_warnings.proofs.ShownLemmas.{about_all, about_first, about_next_at}
use Rattle.logos_warnings.proofs.messages.warnings_about.Goals as goal

pub loop-mistake-init : goal.loop-mistake-init
loop-mistake-init c = about_first c.args.name.now c.args.origin c.args.mistakes.now _ c.new-warnings.ensures.items

pub loop-mistake-preserved : goal.loop-mistake-preserved
loop-mistake-preserved c = about_next_at c.args.name.now c.args.origin c.args.mistakes.now c.loop-mistake.mistake-index _ _ _ c.loop-mistake-test.true c.in_ok-add_about.ensures c.loop-mistake.invariant

pub returns : goal.returns
returns c = about_all c.args.name.now c.args.origin c.args.mistakes.now c.loop-mistake.mistake-index _ c.loop-mistake-test.false c.loop-mistake.invariant
