-- The faults of a file, one after another.
use Rattle.std.proofs.Common.{◌≡◌, ◌==◌, Bool, ◌≤◌, ◌<◌, ◌+◌, ℕ, map, suc, List, [], ◌∷◌, ◌++◌, length, get_or, drop, take, refl, sym, ap, ◌∙◌, append_assoc, arith, subst, true≢false}
use Rattle.std.proofs.lemmas.Bool.{eqb-true, ltb-true, ne_eqb}
use Rattle.std.proofs.Math.Seq.{drop-cons}
use Rattle.std.proofs.lemmas.List.{append-nil, drop_all, drop_more, map_more}
use Rattle.std.proofs.Math.ListN.{drop_of_length-le}
use Rattle.logos_token.specs.declared.error.SpannedError.{SpannedError}
use Rattle.logos_token.specs.Faults.{Fault}
use Rattle.logos_token.specs.FaultView.{fault_of, faults_of}
use Rattle.logos_report.specs.Codes.{is_ambiguity, is_explained}
use Rattle.logos_report.specs.Faults.{counted_texts, explained_texts, fault_texts, left_out, listed_texts, rest_line, seen_of, texts_after}
use Rattle.logos_page.specs.Pages.{PageValue}
use Rattle.logos_report.specs.Reports.{Shows}
use Rattle.logos_report.specs.Sets.{NextValue, begins_error, errors_after, follows, from_of, next_after, offsets_of}
use Rattle.logos_report.specs.declared.clues.Start.{Start}
use Rattle.logos_token.specs.declared.error.fault_code.FaultCode.{FaultCode}
use Rattle.logos_token.specs.declared.error.fault_code.FaultCode.TheVariants.{NoUniversalStart}
use Rattle.std.specs.Prelude.{cond, true, false, if◌then◌else◌, nat_lt}
use mir.Val.{bool_byte}
use Rattle.logos_report.specs.Locations.{SourceValue, location_line}
use Rattle.logos_report.proofs.ReportLemmas.{shows_nothing, shows_then}

pub next_left : (faults : List SpannedError) (i : ℕ) (d : SpannedError) → i < length faults → drop i faults ≡ get_or faults i d ∷ drop (i + 1) faults
next_left faults i d l =
    let k : suc i ≡ i + 1 = omega arith in
    drop-cons faults i d l ∙ ap (λ n. get_or faults i d ∷ drop n faults) k

-- those in front with the next one, where `earlier` come before all of them
pub next_front : (earlier : List Fault) (faults : List SpannedError) (i : ℕ) (d : SpannedError) → i < length faults →
    earlier ++ faults_of (take (i + 1) faults) ≡ (earlier ++ faults_of (take i faults)) ++ fault_of (get_or faults i d) ∷ []
next_front earlier faults i d l = ap (λ list. earlier ++ list) (map_more fault_of faults i d l) ∙ sym (append_assoc earlier (faults_of (take i faults)) (fault_of (get_or faults i d) ∷ []))

-- the next fault, and those after it
pub next_shown : (is_colored : Bool) (source : SourceValue) (begin : ℕ) (starts : List ℕ) (all earlier : List Fault) (faults : List SpannedError) (i : ℕ) (d : SpannedError) (next : NextValue) (old middle new : PageValue) → i < length faults →
    Shows (counted_texts is_colored source begin starts all (earlier ++ faults_of (take i faults)) next (fault_of (get_or faults i d))) old middle →
    Shows (texts_after is_colored source begin starts all (earlier ++ faults_of (take (i + 1) faults)) (next_after next (fault_of (get_or faults i d))) (faults_of (drop (i + 1) faults))) middle new →
    Shows (texts_after is_colored source begin starts all (earlier ++ faults_of (take i faults)) next (faults_of (drop i faults))) old new
next_shown is_colored source begin starts all earlier faults i d next old middle new l s t =
    let left = next_after next (fault_of (get_or faults i d)) in
    let rest = subst (λ front. Shows (texts_after is_colored source begin starts all front left (faults_of (drop (i + 1) faults))) middle new) (next_front earlier faults i d l) t in
    subst (λ list. Shows (texts_after is_colored source begin starts all (earlier ++ faults_of (take i faults)) next (faults_of list)) old new) (sym (next_left faults i d l)) (shows_then s rest)

-- no fault is left
pub none_shown : (is_colored : Bool) (source : SourceValue) (begin : ℕ) (starts : List ℕ) (all front : List Fault) (faults : List SpannedError) (i : ℕ) (next : NextValue) (page : PageValue) → length faults ≤ i →
    Shows (texts_after is_colored source begin starts all front next (faults_of (drop i faults))) page page
none_shown is_colored source begin starts all front faults i next page l =
    subst (λ list. Shows (texts_after is_colored source begin starts all front next (faults_of list)) page page) (sym (drop_of_length-le faults l)) (shows_nothing page)

-- the reports that begin with the next fault, and with those after it
pub next_errors : (faults : List SpannedError) (i : ℕ) (d : SpannedError) (next : NextValue) → i < length faults →
    errors_after next (faults_of (drop i faults)) ≡ cond (begins_error next (fault_of (get_or faults i d))) 1 0 + errors_after (next_after next (fault_of (get_or faults i d))) (faults_of (drop (i + 1) faults))
next_errors faults i d next l = ap (λ list. errors_after next (faults_of list)) (next_left faults i d l)

pub no_errors : (faults : List SpannedError) (i : ℕ) (next : NextValue) → length faults ≤ i → errors_after next (faults_of (drop i faults)) ≡ 0
no_errors faults i next l = ap (λ list. errors_after next (faults_of list)) (drop_of_length-le faults l)

pub one_at_most : (b : Bool) → cond b 1 0 ≤ 1
one_at_most true = omega arith
one_at_most false = omega arith

-- a bit as a number
pub bit_is : (b : Bool) → bool_byte b ≡ cond b 1 0
bit_is true = refl
bit_is false = refl

-- a fault of a set of ambiguous leaves is explained by no patterns
not_explained : (code : FaultCode) → is_ambiguity code ≡ true → is_explained code ≡ false
not_explained NoUniversalStart e = absurd cc
not_explained code e = refl

-- the lines of a fault of a set
pub member_texts : (is_colored : Bool) (source : SourceValue) (begin : ℕ) (starts : List ℕ) (next : NextValue) (fault : Fault) (number : ℕ) → follows next fault ≡ nat_lt 0 number → is_ambiguity fault.code ≡ true →
    (if nat_lt 0 number then location_line is_colored source begin fault.span.from ∷ [] else fault_texts is_colored source begin fault) ≡ listed_texts is_colored source begin starts next fault
member_texts is_colored source begin starts next fault number e a =
    let location = location_line is_colored source begin fault.span.from in
    let plain = fault_texts is_colored source begin fault in
    let alone : explained_texts is_colored source begin starts fault ≡ plain =
    ap (λ (b : Bool). plain ++ (if b then map (location_line is_colored source begin) starts else [])) (not_explained fault.code a) ∙ append-nil plain in
    ap (λ (x : List (List ℕ)). if nat_lt 0 number then location ∷ [] else x) (sym alone)
    ∙ ap (λ (b : Bool). if b then location ∷ [] else explained_texts is_colored source begin starts fault) (sym e)

-- and those of another one
pub single_texts : (is_colored : Bool) (source : SourceValue) (begin : ℕ) (all got : List Start) (next : NextValue) (fault : Fault) → follows next fault ≡ false → got ≡ (if is_explained fault.code then all else []) →
    fault_texts is_colored source begin fault ++ map (location_line is_colored source begin) (offsets_of got) ≡ listed_texts is_colored source begin (offsets_of all) next fault
single_texts is_colored source begin all got next fault e is =
    let location = location_line is_colored source begin fault.span.from in
    let plain = fault_texts is_colored source begin fault in
    let line = location_line is_colored source begin in
    ap (λ (x : List Start). plain ++ map line (offsets_of x)) is ∙ ap (λ (x : List (List ℕ)). plain ++ x) (go (is_explained fault.code))
    ∙ ap (λ (b : Bool). if b then location ∷ [] else explained_texts is_colored source begin (offsets_of all) fault) (sym e)
  where
    go : (b : Bool) → map (location_line is_colored source begin) (offsets_of (if b then all else [])) ≡ (if b then map (location_line is_colored source begin) (offsets_of all) else [])
    go true = refl
    go false = refl

-- no pattern explains a fault
pub none_started : (is_colored : Bool) (source : SourceValue) (begin : ℕ) (starts : List Start) (lines : List (List ℕ)) → (length starts == 0) ≡ true → lines ≡ lines ++ map (location_line is_colored source begin) (offsets_of starts)
none_started is_colored source begin [] lines e = sym (append-nil lines)
none_started is_colored source begin (start ∷ starts) lines e = let none = eqb-true (length (start ∷ starts)) 0 e in absurd (omega (arith, none))

-- the next pattern, and those after it
pub next_started : (is_colored : Bool) (source : SourceValue) (begin : ℕ) (starts : List Start) (i : ℕ) (d : Start) (old middle new : PageValue) → i < length starts → d ≡ get_or starts i d →
    Shows (location_line is_colored source begin (from_of d) ∷ []) old middle → Shows (map (location_line is_colored source begin) (map from_of (drop (i + 1) starts))) middle new →
    Shows (map (location_line is_colored source begin) (map from_of (drop i starts))) old new
next_started is_colored source begin starts i d old middle new l same s t =
    let line = location_line is_colored source begin in
    let one = subst (λ (x : Start). Shows (line (from_of x) ∷ []) old middle) same s in
    subst (λ (list : List Start). Shows (map line (map from_of list)) old new) (sym (drop_more starts i d l)) (shows_then one t)

-- no pattern is left
pub none_left : (is_colored : Bool) (source : SourceValue) (begin : ℕ) (starts : List Start) (i : ℕ) (page : PageValue) → length starts ≤ i → Shows (map (location_line is_colored source begin) (map from_of (drop i starts))) page page
none_left is_colored source begin starts i page l =
    subst (λ (list : List Start). Shows (map (location_line is_colored source begin) (map from_of list)) page page) (sym (drop_all i starts l)) (shows_nothing page)

-- more than 50 faults in front have the code
pub nothing_counted : (is_colored : Bool) (source : SourceValue) (begin : ℕ) (starts : List ℕ) (all front : List Fault) (next : NextValue) (fault : Fault) (seen : ℕ) (page : PageValue) → seen ≡ seen_of fault.code front → 50 ≤ seen → (seen ≡ 50 → ⊥) →
    Shows (counted_texts is_colored source begin starts all front next fault) page page
nothing_counted is_colored source begin starts all front next fault seen page same most other = go (nat_lt (seen_of fault.code front) 50) refl (seen_of fault.code front == 50) refl
  where
    go : (less : Bool) → nat_lt (seen_of fault.code front) 50 ≡ less → (first : Bool) → (seen_of fault.code front == 50) ≡ first →
        Shows (if less then listed_texts is_colored source begin starts next fault else if first then rest_line is_colored fault.code (left_out fault.code all) ∷ [] else []) page page
    go true less first e = absurd (omega (arith, ltb-true (seen_of fault.code front) 50 less, same, most))
    go false less true e = absurd (true≢false (sym e ∙ ne_eqb (seen_of fault.code front) 50 (λ k. other (same ∙ k))))
    go false less false e = shows_nothing page
