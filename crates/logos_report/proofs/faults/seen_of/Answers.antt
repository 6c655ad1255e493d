use Rattle.std.proofs.Common.{arith}
use Rattle.logos_token.specs.FaultNames.{name_of}
use Rattle.logos_report.specs.Faults.{has_name}
use Rattle.logos_report.proofs.CountLemmas.{all_seen}
use Rattle.logos_report.proofs.faults.seen_of.Goals as goal

pub returns-then-count-gt-MOST : goal.returns-then-count-gt-MOST
returns-then-count-gt-MOST c =
    all_seen (has_name (name_of c.args.code)) c.args.faults.now c.loop-left.left c.loop-left.count c.loop-left.invariant.counted c.loop-left.invariant.few
    (λ l. omega (arith, c.if-count-gt-MOST.true))

pub returns : goal.returns
returns c =
    all_seen (has_name (name_of c.args.code)) c.args.faults.now c.loop-left.left c.loop-left.count c.loop-left.invariant.counted c.loop-left.invariant.few
    (λ l. omega (arith, l, c.loop-left-test.false))
