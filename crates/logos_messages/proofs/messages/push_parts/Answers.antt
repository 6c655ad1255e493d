use Rattle.logos_messages.proofs.MessageLemmas.{none_left}
use Rattle.logos_messages.proofs.messages.push_parts.Goals as goal

pub returns : goal.returns
returns c = c.loop-number.invariant _ (none_left c.args.source.now c.args.refused.now c.loop-number.number _ c.loop-number-test.false)
