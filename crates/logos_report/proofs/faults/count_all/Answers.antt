use Rattle.std.proofs.Common.{◌≡◌, ◌∙◌, ◌+◌, ◌≤◌, Bool, ℕ, ap, drop, sym, arith}
use Rattle.std.specs.Prelude.{cond}
use Rattle.logos_token.specs.FaultView.{fault_of, faults_of}
use Rattle.logos_report.specs.Sets.{NextValue, begins_error, errors_after, next_after, next_value}
use Rattle.logos_report.proofs.FaultLemmas.{bit_is, next_errors, no_errors, one_at_most}
use Rattle.logos_report.proofs.faults.count_all.Goals as goal

pub loop-fault-preserved : goal.loop-fault-preserved
loop-fault-preserved c =
    let next = next_value c.loop-fault.next in
    let i = c.loop-fault.fault-index in
    let rest = faults_of (drop (i + 1) c.args.faults.now) in
    let then_left = next_errors c.args.faults.now i c.fault-item.result next c.loop-fault-test.true ∙
    ap (λ x. cond (begins_error next (fault_of x)) 1 0 + errors_after (next_after next (fault_of x)) rest) (sym c.fault-item.is) in
    let one = c.from-count.ensures ∙ bit_is c.begins_error.result ∙ ap (λ (b : Bool). cond {A = ℕ} b 1 0) c.begins_error.ensures in
    let left = ap (λ (t : NextValue). errors_after t rest) c.after-next.ensures.faults in
    let least = one_at_most (begins_error next (fault_of c.fault-item.result)) in
    record {
      counted = omega (arith, c.loop-fault.invariant.counted, then_left, one, left);
      few = omega (arith, c.loop-fault.invariant.few, one, least);
    }

pub returns : goal.returns
returns c =
    let none = no_errors c.args.faults.now c.loop-fault.fault-index (next_value c.loop-fault.next) c.loop-fault-test.false in
    omega (arith, c.loop-fault.invariant.counted, none)
