use Rattle.logos_answers.specs.Quoting.{shown_byte}
use Rattle.logos_answers.proofs.GainLemmas.{next_gained_at, none_gained}
use Rattle.logos_answers.proofs.quotes.push_bytes.Goals as goal

pub loop-byte-preserved : goal.loop-byte-preserved
loop-byte-preserved c = λ new rest. c.loop-byte.invariant new (next_gained_at shown_byte c.args.bytes.now c.loop-byte.byte-index 0 c.loop-byte-test.true c.push_byte.ensures rest)

pub returns : goal.returns
returns c = c.loop-byte.invariant _ (none_gained shown_byte c.args.bytes.now c.loop-byte.byte-index _ c.loop-byte-test.false)
