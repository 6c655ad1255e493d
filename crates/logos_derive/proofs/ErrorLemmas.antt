-- The errors of faults, one after another.
use Rattle.std.proofs.Common.{◌≡◌, ◌≢◌, ◌<◌, ◌+◌, ℕ, List, [], ◌∷◌, ◌++◌, length, get_or, drop, take, ap, refl, sym, ◌∙◌, append_assoc}
use Rattle.logos_derive.specs.Diagnostics.{Summary, errors_after, errors_at, error_summaries}
use Rattle.logos_report.proofs.FaultLemmas.{next_front, next_left}
use Rattle.logos_report.specs.Sets.{NextValue, next_after}
use Rattle.logos_token.specs.FaultView.{fault_of, faults_of}
use Rattle.logos_token.specs.Faults.{Fault}
use Rattle.logos_token.specs.declared.error.SpannedError.{SpannedError}

-- the next fault, and those after it
pub next_summaries : (faults : List SpannedError) (i : ℕ) (d : SpannedError) (next after : NextValue) (old new whole : List Summary) → i < length faults →
    new ≡ old ++ errors_at (faults_of (take i faults)) next (fault_of (get_or faults i d)) → after ≡ next_after next (fault_of (get_or faults i d)) →
    old ++ errors_after (faults_of (take i faults)) next (faults_of (drop i faults)) ≡ whole →
    new ++ errors_after (faults_of (take (i + 1) faults)) after (faults_of (drop (i + 1) faults)) ≡ whole
next_summaries faults i d next after old new whole l e then_left all =
    let fault = fault_of (get_or faults i d) in
    let front = faults_of (take i faults) in
    let rest = faults_of (drop (i + 1) faults) in
    let left = errors_after (front ++ fault ∷ []) (next_after next fault) rest in
    ap (λ list. list ++ errors_after (faults_of (take (i + 1) faults)) after rest) e
    ∙ ap (λ list. (old ++ errors_at front next fault) ++ errors_after list after rest) (next_front [] faults i d l)
    ∙ ap (λ (t : NextValue). (old ++ errors_at front next fault) ++ errors_after (front ++ fault ∷ []) t rest) then_left
    ∙ append_assoc old (errors_at front next fault) left
    ∙ sym (ap (λ list. old ++ errors_after front next (faults_of list)) (next_left faults i d l))
    ∙ all

-- faults have an error
pub some_summaries : (sizes : List ℕ) (faults : List Fault) → faults ≢ [] → error_summaries sizes faults ≢ []
some_summaries sizes [] n = λ e. absurd (n refl)
some_summaries sizes (fault ∷ faults) n = λ e. absurd cc
