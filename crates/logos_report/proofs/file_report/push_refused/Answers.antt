use Rattle.std.proofs.Common.{◌∙◌}
use Rattle.logos_report.proofs.PartLemmas.{none_left, then_as}
use Rattle.logos_report.proofs.file_report.push_refused.Goals as goal

pub loop-number-preserved : goal.loop-number-preserved
loop-number-preserved c =
    let same = c.loop-number.invariant.colored in
    record {
      colored = c.push_part.ensures.colored ∙ same;
      rest = λ new s. c.loop-number.invariant.rest new (then_as c.args.page.now.is_colored c.args.source.now c.args.refused.now c.loop-number.number _ _ same c.push_part.ensures.shown new s);
    }

pub returns : goal.returns
returns c = c.loop-number.invariant.rest _ (none_left c.args.page.now.is_colored c.args.source.now c.args.refused.now c.loop-number.number _ c.loop-number-test.false)
