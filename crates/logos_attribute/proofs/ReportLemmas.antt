-- Growing lists of faults.
use Rattle.std.proofs.Common.{◌≡◌, List, [], ◌++◌, ◌∙◌, ap, sym, append_assoc}
use Rattle.std.proofs.lemmas.List.{append-nil}
use Rattle.logos_token.specs.Faults.{Fault}
use Rattle.logos_attribute.specs.Reports.{Report, without_faults, and_then, IsReport}
use Rattle.logos_attribute.specs.inside.Steps.{Completes}

-- two steps that list faults, one after the other
pub listed_then : (old middle new before after : List Fault) → middle ≡ old ++ before → new ≡ middle ++ after → new ≡ old ++ (before ++ after)
listed_then old middle new before after e f = f ∙ (ap (λ (xs : List Fault). xs ++ after) e ∙ append_assoc old before after)

-- a loop: one step more
pub completes_step : {A B : Type 0} (whole : Report B) (old now new : List Fault) (report : Report A) (next : A → Report B) (value : A) →
    Completes whole old (and_then report next) now → IsReport report value now new → Completes whole old (next value) new
completes_step whole old now new report next value h t =
    rw (t.0, t.1) (h.0, h.1 ∙ sym (append_assoc now report.faults (next report.value).faults))

-- a loop: nothing is left
pub completes_end : {A : Type 0} (whole : Report A) (old now : List Fault) (value : A) → Completes whole old (without_faults value) now → IsReport whole value old now
completes_end whole old now value h = (sym h.0, sym (h.1 ∙ append-nil now))

-- faults that are found alone, and are then appended to others
pub report_alone : {A : Type 0} (report : Report A) (value : A) (ahead none found all : List Fault) → none ≡ [] → IsReport report value none found → all ≡ ahead ++ found → IsReport report value ahead all
report_alone report value ahead none found all n t e = (t.0, e ∙ ap (λ (l : List Fault). ahead ++ l) (t.1 ∙ ap (λ (l : List Fault). l ++ report.faults) n))

-- two steps whose faults are found alone, and are then appended to others
pub listed_alone : (ahead none middle found all before after : List Fault) → none ≡ [] → middle ≡ none ++ before → found ≡ middle ++ after → all ≡ ahead ++ found → all ≡ ahead ++ (before ++ after)
listed_alone ahead none middle found all before after n e f g = g ∙ ap (λ (l : List Fault). ahead ++ l) (listed_then none middle found before after e f ∙ ap (λ (l : List Fault). l ++ (before ++ after)) n)
