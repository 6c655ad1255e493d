use Rattle.logos_html.specs.Flows.{flowing_byte}
use Rattle.logos_answers.proofs.GainLemmas.{next_gained_at, none_gained}
use Rattle.logos_html.proofs.bytes.push_others.Goals as goal

pub loop-byte-preserved : goal.loop-byte-preserved
loop-byte-preserved c = λ new rest. c.loop-byte.invariant new (next_gained_at flowing_byte c.args.bytes.now c.loop-byte.byte-index 0 c.loop-byte-test.true c.push_flowing_byte.ensures rest)

pub returns : goal.returns
returns c = c.loop-byte.invariant _ (none_gained flowing_byte c.args.bytes.now c.loop-byte.byte-index _ c.loop-byte-test.false)
