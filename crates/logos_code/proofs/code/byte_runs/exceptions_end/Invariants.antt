use Rattle.std.proofs.Common.{drop}
use Rattle.logos_byte_class.specs.Bytes.{is_among}
use Rattle.logos_code.proofs.AlikeLemmas.{EndsRunIf}
use Rattle.logos_code.proofs.code.byte_runs.exceptions_end.Given as goal

-- the exceptions that are left decide
abbrev pub invariant-loop-one : goal.invariant-loop-one
invariant-loop-one l = EndsRunIf (is_among (drop l.one-index l.except)) (is_among l.except) l.byte l.end l.until
