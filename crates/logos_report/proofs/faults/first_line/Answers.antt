use Rattle.std.proofs.Common.{arith, sym, ap, ◌∙◌, take}
use Rattle.std.proofs.Math.Seq.{take-length}
use Rattle.logos_report.proofs.faults.first_line.Goals as goal

pub returns-in-Some : goal.returns-in-Some
returns-in-Some c = (c.in-Some.ensures.byte (omega arith) (λ w o f. f)).0

pub returns-in-None : goal.returns-in-None
returns-in-None c = sym (ap (λ n. take n c.args.text.now) (c.in-None.ensures.byte (omega arith) (λ w o f. f)) ∙ take-length c.args.text.now)
