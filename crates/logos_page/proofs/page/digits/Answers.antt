use Rattle.std.proofs.Common.{arith}
use Rattle.logos_page.proofs.DigitLemmas.{few, one_digit, one_more, smaller}
use Rattle.logos_page.proofs.page.digits.Goals as goal

pub overflow_add-count : goal.overflow_add-count
overflow_add-count c = omega (arith, c.loop-rest.invariant.counted, few c.args.number c.ranges.number.fits)

pub loop-rest-preserved : goal.loop-rest-preserved
loop-rest-preserved c = record {
  counted = let m = one_more c.loop-rest.rest c.loop-rest-test.true c.loop-rest.invariant.small in omega (arith, m, c.loop-rest.invariant.counted);
  least = omega arith;
  small = smaller c.loop-rest.rest c.loop-rest.invariant.small;
}

pub returns : goal.returns
returns c = let o = one_digit c.loop-rest.rest c.loop-rest-test.false in omega (arith, o, c.loop-rest.invariant.counted)
