-- The number of faults that have a code, counted from the last fault.
use Rattle.std.proofs.Common.{◌≡◌, ◌≤◌, ◌<◌, ◌+◌, ℕ, zero, suc, Bool, List, [], ◌∷◌, length, get_or, drop, min, ap, ◌∙◌, arith}
use Rattle.std.specs.List.{count_by}
use Rattle.std.proofs.lemmas.List.Sums.{sum_by-cons}
use Rattle.std.specs.Prelude.{cond}
use Rattle.logos_token.specs.Faults.{Fault}
use Rattle.logos_token.specs.declared.error.SpannedError.{SpannedError}
use Rattle.logos_token.specs.FaultView.{fault_of, faults_of}
use Rattle.logos_report.proofs.FaultLemmas.{next_left}

-- the faults at the end are no more than all
pub end_counts : (p : Fault → Bool) (faults : List SpannedError) (i : ℕ) → count_by p (faults_of (drop i faults)) ≤ count_by p (faults_of faults)
end_counts p faults zero = omega arith
end_counts p [] (suc i) = omega arith
end_counts p (fault ∷ faults) (suc i) =
    let below = end_counts p faults i in
    let all = sum_by-cons (λ y. cond (p y) 1 0) (fault_of fault) (faults_of faults) in
    omega (arith, below, all)

-- one fault more at the front of the end
pub one_counted : (p : Fault → Bool) (faults : List SpannedError) (i : ℕ) (d : SpannedError) → i < length faults →
    count_by p (faults_of (drop i faults)) ≡ cond (p (fault_of (get_or faults i d))) 1 0 + count_by p (faults_of (drop (i + 1) faults))
one_counted p faults i d l =
    ap (λ list. count_by p (faults_of list)) (next_left faults i d l) ∙ sum_by-cons (λ y. cond (p y) 1 0) (fault_of (get_or faults i d)) (faults_of (drop (i + 1) faults))

-- all faults were examined, or enough of them had the code
pub all_seen : (p : Fault → Bool) (faults : List SpannedError) (left count : ℕ) → count ≡ count_by p (faults_of (drop left faults)) → count ≤ 51 → (1 ≤ left → 51 ≤ count) →
    count ≡ min (count_by p (faults_of faults)) 51
all_seen p faults zero count is few past = omega (arith, is, few)
all_seen p faults (suc left) count is few past =
    let below = end_counts p faults (suc left) in
    let most = past (omega arith) in
    omega (arith, is, few, below, most)
