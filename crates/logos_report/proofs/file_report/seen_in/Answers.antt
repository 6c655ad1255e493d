use Rattle.std.proofs.Common.{arith}
use Rattle.logos_token.specs.FaultNames.{name_of}
use Rattle.logos_token.specs.FaultView.{faults_of}
use Rattle.logos_report.specs.Faults.{has_name}
use Rattle.logos_report.proofs.PartLemmas.{seen_all}
use Rattle.logos_report.proofs.file_report.seen_in.Goals as goal

pub returns-then-count-gt-MOST : goal.returns-then-count-gt-MOST
returns-then-count-gt-MOST c =
    seen_all (has_name (name_of c.args.code)) c.args.earlier.now (faults_of c.args.front.now) c.loop-left.left c.loop-left.count c.loop-left.invariant.counted
    (λ l. omega (arith, c.if-count-gt-MOST.true))
