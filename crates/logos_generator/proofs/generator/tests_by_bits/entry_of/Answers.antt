use Rattle.std.proofs.Common.{arith}
use Rattle.logos_generator.proofs.BitLemmas.{bits_fit}
use Rattle.logos_generator.proofs.NumberLemmas.{bits_more, bits_whole}
use Rattle.logos_generator.proofs.generator.tests_by_bits.entry_of.Goals as goal

pub loop-i-preserved : goal.loop-i-preserved
loop-i-preserved c = (
  rw c.bit_of.ensures (bits_fit c.loop-i.bits c.loop-i.i _ c.loop-i.invariant.0),
  bits_more c.args.tests.now c.args.b c.args.j c.loop-i.i c.loop-i.bits c.bit_of.result c.loop-i-test.true c.loop-i.invariant.1 c.bit_of.ensures,
)

pub returns : goal.returns
returns c = bits_whole c.args.tests.now c.args.b c.args.j c.loop-i.i c.loop-i.bits (omega (arith, c.loop-i-test.false, c.loop-i.auto.i-end)) c.loop-i.invariant.1
