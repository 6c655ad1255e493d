use Rattle.std.proofs.Common.{◌∙◌, sym}
use Rattle.logos_pattern_tokens.proofs.Hex.{no_digit, high_digit, all_read, none_there}
use Rattle.logos_pattern_tokens.proofs.counts.scalar_of.Goals as goal

pub returns-in_default : goal.returns-in_default
returns-in_default c =
    no_digit c.loop-c.number c.args.digits.now c.loop-c.c-index c.loop-c.invariant.1 c.c-item.result c.loop-c-test.true c.c-item.is (sym c.hex_digit.ensures ∙ c.in_default.is)

pub returns-then-number-gt1114111 : goal.returns-then-number-gt1114111
returns-then-number-gt1114111 c =
    high_digit c.loop-c.number c.args.digits.now c.loop-c.c-index c.loop-c.invariant.1 c.c-item.result c.in-Some.digit c.loop-c-test.true c.c-item.is (sym c.hex_digit.ensures ∙ c.in-Some.is) c.if-number-gt1114111.true

pub returns-in-Some-from_u32 : goal.returns-in-Some-from_u32
returns-in-Some-from_u32 c =
    let v = c.in-Some-from_u32.ensures.value in
    all_read c.loop-c.number c.args.digits.now c.loop-c.c-index c.loop-c.invariant.1 c.in-Some-from_u32.c c.loop-c-test.false v.0 v.1

pub returns-in-None : goal.returns-in-None
returns-in-None c = none_there c.loop-c.number c.args.digits.now c.loop-c.c-index c.loop-c.invariant.1 c.loop-c-test.false c.in-None.ensures.value
