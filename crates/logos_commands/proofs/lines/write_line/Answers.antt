use Rattle.std.proofs.Common.{rules, arith, ◌≡◌, ◌+◌, ◌≤◌, length}
use Rattle.std.specs.Fmt.{decimal}
use Rattle.logos_commands.proofs.LineLemmas.{few_digits}
use Rattle.logos_commands.proofs.lines.write_line.Goals as goal

pub write_digits-at-requires : goal.write_digits-at-requires
write_digits-at-requires c =
    let row_start : (27 ≤ c.write_span-at.result) × (c.write_span-at.result ≤ 70) = c.write_span-at.ensures.row_start in
    let next : c.write_before-at.result + 1 ≡ c.write_span-at.result = c.write_before-at.ensures.row_start in
    let few : length (decimal c.in-Token.leaf.0) ≤ 20 = search (rules, few_digits) in
    (omega (arith, row_start.0, next, few), omega (arith, row_start.1, next, c.write_before-at.array_long))

pub write_before-requires : goal.write_before-requires
write_before-requires c =
    let row_start : (27 ≤ c.write_span-at.result) × (c.write_span-at.result ≤ 70) = c.write_span-at.ensures.row_start in
    let next : c.write_before-at.result + 1 ≡ c.write_span-at.result = c.write_before-at.ensures.row_start in
    let few : length (decimal c.in-Token.leaf.0) ≤ 20 = search (rules, few_digits) in
    let low : 6 ≤ c.write_digits-at.result = omega (arith, row_start.0, next, few, c.write_digits-at.ensures.start) in
    let high : c.write_digits-at.result ≤ 70 = omega (arith, row_start.1, next, c.write_digits-at.ensures.start) in
    (low, high)
