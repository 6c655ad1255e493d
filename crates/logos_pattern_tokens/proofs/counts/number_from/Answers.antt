use Rattle.std.proofs.Common.{sym, ◌∙◌, arith}
use Rattle.logos_pattern_tokens.proofs.Numbers.{too_large, ends_there, stops_there}
use Rattle.logos_pattern_tokens.proofs.counts.number_from.Goals as goal

pub returns-in_default : goal.returns-in_default
returns-in_default c = ends_there _ _ _ c.loop-rest.invariant.1 c.in_default.len_below c.loop-rest.invariant.0

pub returns-then-not-is_digit : goal.returns-then-not-is_digit
returns-then-not-is_digit c = stops_there _ _ c.c-item.result _ c.loop-rest.invariant.1 c.in-len1-up.len_at_least c.c-item.is (sym c.is_digit.ensures ∙ c.if-not-is_digit.true) c.loop-rest.invariant.0

pub returns-in_default-checked_mul : goal.returns-in_default-checked_mul
returns-in_default-checked_mul c = too_large _ _ c.c-item.result _ c.loop-rest.invariant.1 c.in-len1-up.len_at_least c.c-item.is (sym c.is_digit.ensures ∙ c.if-not-is_digit.false) (omega (arith, c.in_default-checked_mul.ensures))

pub returns-in_default-checked_add : goal.returns-in_default-checked_add
returns-in_default-checked_add c = too_large _ _ c.c-item.result _ c.loop-rest.invariant.1 c.in-len1-up.len_at_least c.c-item.is (sym c.is_digit.ensures ∙ c.if-not-is_digit.false) (omega (arith, c.in-Some.ensures, c.in_default-checked_add.ensures))
