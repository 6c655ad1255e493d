use Rattle.std.proofs.Common.{◌++◌, codes}
use Rattle.logos_answers.specs.Expecting.{line_text}
use Rattle.logos_page.proofs.PageLemmas.{gains_then}
use Rattle.logos_answers.proofs.expectation.push_difference.Goals as goal

pub returns : goal.returns
returns c = (
  c.push_location.ensures.0 ++ (line_text (codes "expected ") c.line_from.result.now ++ line_text (codes "found    ") c.line_from-2.result.now),
  gains_then c.push_shown.ensures (gains_then c.push_location.ensures.1 (gains_then c.push_line.ensures c.push_line-2.ensures)),
)
