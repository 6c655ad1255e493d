use Rattle.std.proofs.Common.{◌≡◌, ◌∙◌, ◌++◌, ap, map, subst, take}
use Rattle.logos_derive.proofs.ErrorLemmas.{next_summaries}
use Rattle.logos_derive.specs.Diagnostics.{errors_at, summary_of}
use Rattle.logos_report.specs.Sets.{next_after, next_value}
use Rattle.logos_token.specs.FaultView.{fault_of, faults_of}
use Rattle.logos_token.specs.declared.error.SpannedError.{SpannedError}
use Rattle.logos_derive.proofs.errors.errors_of.Goals as goal

pub loop-number-preserved : goal.loop-number-preserved
loop-number-preserved c =
    let faults = c.args.faults.now in
    let i = c.loop-number.number in
    let next = next_value c.loop-number.next in
    let one = subst (λ (x : SpannedError). map summary_of c.add_fault.new.errors.items ≡ map summary_of c.loop-number.errors.items ++ errors_at (faults_of (take i faults)) next (fault_of x)) c.index-faults-number.is c.in_ok-add_fault.ensures in
    let left = c.after-next.ensures.faults ∙ ap (λ (x : SpannedError). next_after next (fault_of x)) c.index-faults-number.is in
    next_summaries faults i c.index-faults-number.result next _ _ _ _ c.loop-number-test.true one left c.loop-number.invariant
