-- Growing lists of faults, and steps that add none.
use Rattle.std.proofs.Common.{◌≡◌, Bool, true, false, Some, None, List, [], ◌∷◌, ◌++◌, ◌∙◌, ap, sym, refl, append_assoc}
use Rattle.std.proofs.lemmas.List.{append-nil}
use Rattle.logos_token.specs.Faults.{Fault}
use Rattle.logos_attribute.specs.Reports.{Report, IsReport}

-- ---- unequal values

pub no_some : {A : Type 0} {x : A} → Some x ≡ None → ⊥
no_some e = cc

pub the_same : {A : Type 0} {x y : A} → Some x ≡ Some y → x ≡ y
the_same e = cc

pub not_both : {b : Bool} → b ≡ true → b ≡ false → ⊥
not_both e f = let k = sym e ∙ f in cc

-- ---- lists of faults

-- faults were added after a list
pub record Grows (old new : List Fault) : Type 0 where
  pub added : List Fault
  pub is : new ≡ old ++ added

-- where the one reading listed no fault, the other one lists none and reads the same
abbrev pub Agree : {A : Type 0} → A → A → List Fault → List Fault → Type 0
Agree x y old new = (new ≡ old) × (x ≡ y)

pub grows_by : {old new : List Fault} (added : List Fault) → new ≡ old ++ added → Grows old new
grows_by added e = record { added = added; is = e }

pub grows_same : {old new : List Fault} → new ≡ old → Grows old new
grows_same {old} e = grows_by [] (e ∙ sym (append-nil old))

pub grows_then : {old mid new : List Fault} → Grows old mid → Grows mid new → Grows old new
grows_then {old} g h = grows_by (g.added ++ h.added) (h.is ∙ (ap (λ (xs : List Fault). xs ++ h.added) g.is ∙ append_assoc old g.added h.added))

pub report_grows : {A : Type 0} (report : Report A) {value : A} {old new : List Fault} → IsReport report value old new → Grows old new
report_grows report t = grows_by report.faults t.1

pub no_front : (f : Fault) (fs : List Fault) → f ∷ fs ≡ [] → ⊥
no_front f fs e = cc

pub no_after : (front after : List Fault) → front ++ after ≡ [] → after ≡ []
no_after [] after e = e
no_after (f ∷ fs) after e = absurd (no_front f (fs ++ after) e)

-- a list that grew to nothing was nothing
pub none_before : {old new : List Fault} → Grows old new → new ≡ [] → old ≡ []
none_before {old = []} g e = refl
none_before {old = x ∷ xs} g e = absurd (no_front x (xs ++ g.added) (sym g.is ∙ e))

-- a list to which something was added is not nothing
pub never : {new : List Fault} (old : List Fault) (f : Fault) (fs : List Fault) → new ≡ old ++ f ∷ fs → new ≡ [] → ⊥
never [] f fs g e = no_front f fs (sym g ∙ e)
never (x ∷ xs) f fs g e = no_front x (xs ++ f ∷ fs) (sym g ∙ e)

-- nothing was added to a list that is nothing now
pub none_added : {new added : List Fault} (old : List Fault) → new ≡ old ++ added → new ≡ [] → added ≡ []
none_added [] g e = sym g ∙ e
none_added {added = added} (x ∷ xs) g e = absurd (no_front x (xs ++ added) (sym g ∙ e))

pub added_none : {old new added : List Fault} → new ≡ old ++ added → added ≡ [] → new ≡ old
added_none {old} g e = g ∙ (ap (λ (xs : List Fault). old ++ xs) e ∙ append-nil old)

pub report_once : {A : Type 0} {report other : Report A} {x y : A} {new old' new' : List Fault} (old : List Fault) → report ≡ other → new ≡ [] → IsReport report x old new → IsReport other y old' new' → Agree x y old' new'
report_once old e n t u = (added_none u.1 (sym (ap (λ k. k.faults) e) ∙ none_added old t.1 n), t.0 ∙ (ap (λ k. k.value) e ∙ sym u.0))
