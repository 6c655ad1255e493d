use Rattle.logos_lines.proofs.LocationLemmas.{no_line}
use Rattle.logos_lines.proofs.index.LineIndex.offset.Goals as goal

pub returns-in_err-start-clause-every : goal.returns-in_err-start-clause-every
returns-in_err-start-clause-every c = λ o b p. absurd (no_line _ c.args.line o c.args.column c.in_err-start.ensures b p)
