use Rattle.std.proofs.Common.{◌≡◌, length, arith, rules}
use Rattle.logos_code.proofs.AlikeLemmas.{table_run}
use Rattle.logos_code.proofs.code.byte_runs.table_end.Goals as goal

pub returns-then-table-b : goal.returns-then-table-b
returns-then-table-b c =
    let i = c.loop-b.invariant in
    let long : length c.args.table.now ≡ 256 = search rules in
    (i.0, i.1, table_run c.args.table.now _ c.args.byte c.loop-b.b (let m = i.1 in omega (arith, m, long, c.requires.end)) i.0 i.2)

pub returns : goal.returns
returns c =
    let i = c.loop-b.invariant in
    let long : length c.args.table.now ≡ 256 = search rules in
    let m = i.1 in
    (c.requires.byte, omega arith, table_run c.args.table.now _ c.args.byte c.args.end (omega (arith, long, c.requires.end)) c.requires.byte (λ k h l. i.2 k h (omega (arith, l, c.loop-b-test.false))))
