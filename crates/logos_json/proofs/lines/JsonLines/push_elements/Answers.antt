use Rattle.logos_json.specs.Members.{byte_tokens}
use Rattle.logos_json.proofs.LineLemmas.{next_gained, none_gained}
use Rattle.logos_json.proofs.lines.JsonLines.push_elements.Goals as goal

pub loop-byte-preserved : goal.loop-byte-preserved
loop-byte-preserved c = λ new rest. c.loop-byte.invariant new (next_gained byte_tokens c.args.bytes.now c.loop-byte.byte-index 0 c.loop-byte-test.true c.number.ensures rest)

pub returns : goal.returns
returns c = c.loop-byte.invariant _ (none_gained byte_tokens c.args.bytes.now c.loop-byte.byte-index _ c.loop-byte-test.false)
