use Rattle.std.proofs.Common.{◌++◌, codes, decimal}
use Rattle.logos_page.proofs.PageLemmas.{gains_then}
use Rattle.logos_answers.proofs.expectation.push_point.Goals as goal

pub returns : goal.returns
returns c = (
  codes ":" ++ (decimal c.args.location.line ++ (codes ":" ++ (decimal c.args.location.column ++ codes ": the answer is another\n"))),
  gains_then c.push.ensures (gains_then c.push_number.ensures (gains_then c.push-2.ensures (gains_then c.push_number-2.ensures c.push-3.ensures))),
)
