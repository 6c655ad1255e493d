use Rattle.std.proofs.Common.{rules, arith, ◌≡◌, ◌+◌, ◌≤◌, ◌++◌, ◌∙◌, ap, length, drop, [], ◌∷◌}
use Rattle.std.specs.Fmt.{decimal}
use Rattle.logos_commands.proofs.LineLemmas.{few_digits, nothing_left}
use Rattle.logos_commands.proofs.lines.write_span.Goals as goal

pub write_digits-at-requires : goal.write_digits-at-requires
write_digits-at-requires c =
    let row_start : c.write_before-at.result + 1 ≡ 70 = c.write_before-at.ensures.row_start in
    let few : length (decimal c.args.span.to) ≤ 20 = search (rules, few_digits) in
    (omega (arith, row_start, few), omega (arith, row_start, c.write_before-at.array_long))

pub write_before-at-requires-2 : goal.write_before-at-requires-2
write_before-at-requires-2 c =
    let row_start : c.write_before-at.result + 1 ≡ 70 = c.write_before-at.ensures.row_start in
    let few : length (decimal c.args.span.to) ≤ 20 = search (rules, few_digits) in
    let low : 2 ≤ c.write_digits-at.result = omega (arith, row_start, few, c.write_digits-at.ensures.start) in
    let high : c.write_digits-at.result ≤ 70 = omega (arith, row_start, c.write_digits-at.ensures.start) in
    (low, high)

pub write_digits-requires : goal.write_digits-requires
write_digits-requires c =
    let row_start : c.write_before-at.result + 1 ≡ 70 = c.write_before-at.ensures.row_start in
    let next : c.write_before-at-2.result + 2 ≡ c.write_digits-at.result = c.write_before-at-2.ensures.row_start in
    let few : length (decimal c.args.span.to) ≤ 20 = search (rules, few_digits) in
    let few_more : length (decimal c.args.span.from) ≤ 20 = search (rules, few_digits) in
    (omega (arith, row_start, next, few, few_more, c.write_digits-at.ensures.start), omega (arith, row_start, next, c.write_digits-at.ensures.start, c.write_before-at-2.array_long))

pub returns-clause-row_start : goal.returns-clause-row_start
returns-clause-row_start c =
    let row_start : c.write_before-at.result + 1 ≡ 70 = c.write_before-at.ensures.row_start in
    let next : c.write_before-at-2.result + 2 ≡ c.write_digits-at.result = c.write_before-at-2.ensures.row_start in
    let few : length (decimal c.args.span.to) ≤ 20 = search (rules, few_digits) in
    let few_more : length (decimal c.args.span.from) ≤ 20 = search (rules, few_digits) in
    let low : 27 ≤ c.write_digits.result = omega (arith, row_start, next, few, few_more, c.write_digits-at.ensures.start, c.write_digits.ensures.start) in
    let high : c.write_digits.result ≤ 70 = omega (arith, row_start, next, c.write_digits-at.ensures.start, c.write_digits.ensures.start) in
    (low, high)

pub returns-clause-text : goal.returns-clause-text
returns-clause-text c =
    let row_start : c.write_before-at.result + 1 ≡ 70 = c.write_before-at.ensures.row_start in
    let end : drop 70 c.args.line.now ≡ [] = nothing_left c.write_before-at.new.line (drop 70 c.args.line.now) c.write_before-at.result 10 c.write_before-at.array_long row_start c.write_before-at.ensures.text in
    c.write_digits.ensures.written ∙ ap (λ rest. decimal c.args.span.from ++ rest) (c.write_before-at-2.ensures.text
    ∙ ap (λ rest. 46 ∷ 46 ∷ rest) (c.write_digits-at.ensures.written ∙ ap (λ rest. decimal c.args.span.to ++ rest) (c.write_before-at.ensures.text
    ∙ ap (λ rest. 10 ∷ rest) end)))
