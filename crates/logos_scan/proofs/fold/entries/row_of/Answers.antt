use Rattle.std.proofs.Common.{length-set, refl, ◌∙◌, arith}
use Rattle.logos_scan.proofs.fold.FoldLemmas.{blank, row_each, row_within}
use Rattle.logos_scan.proofs.fold.entries.row_of.Goals as goal

pub loop-b-init : goal.loop-b-init
loop-b-init c = record {
  long = refl;
  each = λ b h. absurd (omega (arith, h));
  within = λ k h. blank c.args.code.now c.args.state k c.requires.state h;
}

pub loop-b-preserved : goal.loop-b-preserved
loop-b-preserved c =
    let i = c.loop-b.invariant in
    record {
      long = length-set c.loop-b.row c.loop-b.b c.fold.result ∙ i.long;
      each = row_each c.args.code.now c.args.state c.loop-b.row c.loop-b.b c.fold.result i.long c.loop-b-test.true c.fold.ensures.folded i.each;
      within = row_within c.args.code.now c.args.state c.loop-b.row c.loop-b.b c.fold.result i.long c.loop-b-test.true c.fold.ensures.within i.within;
    }
