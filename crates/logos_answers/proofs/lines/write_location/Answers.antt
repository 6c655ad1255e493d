use Rattle.std.proofs.Common.{rules, arith, ◌≤◌, length, length-set}
use Rattle.std.specs.Fmt.{decimal}
use Rattle.logos_answers.proofs.DigitLemmas.{few_digits}
use Rattle.logos_answers.proofs.lines.write_location.Goals as goal

pub write_digits-end-requires : goal.write_digits-end-requires
write_digits-end-requires c =
    let few : length (decimal c.args.location.column) ≤ 20 = search (rules, few_digits) in
    (omega (arith, few), search rules)

pub overflow_sub-colon : goal.overflow_sub-colon
overflow_sub-colon c =
    let few : length (decimal c.args.location.column) ≤ 20 = search (rules, few_digits) in
    omega (arith, few, c.write_digits-end.ensures.start)

pub write_digits-requires : goal.write_digits-requires
write_digits-requires c =
    let few : length (decimal c.args.location.column) ≤ 20 = search (rules, few_digits) in
    let few_more : length (decimal c.args.location.line) ≤ 20 = search (rules, few_digits) in
    let start = c.write_digits-end.ensures.start in
    (omega (arith, few, few_more, start), simp length-set (omega (arith, start, c.write_digits-end.auto.buf, c.told-line)))
