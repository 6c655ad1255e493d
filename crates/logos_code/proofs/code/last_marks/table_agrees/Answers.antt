use Rattle.std.proofs.Common.{◌≡◌, length, arith, rules}
use Rattle.logos_code.specs.CodeView.{code_of}
use Rattle.logos_code.proofs.LastMarkLemmas.{table_follows}
use Rattle.logos_code.proofs.code.last_marks.table_agrees.Goals as goal

pub returns : goal.returns
returns c = λ t.
    let long : length c.args.table.now ≡ 256 = search rules in
    table_follows (code_of c.args.parts.now) c.args.marks.now c.args.from c.args.table.now (λ k h. c.loop-b.invariant k (omega (arith, h, long)))
