-- The parts of a file, one after another.
use Rattle.std.proofs.Common.{◌≡◌, Bool, ◌≤◌, ◌<◌, ◌+◌, ℕ, zero, suc, List, [], ◌∷◌, ◌++◌, length, get_or, drop, take, min, sym, ap, ◌∙◌, append_assoc, refl, arith, subst}
use Rattle.std.proofs.Math.Seq.{drop-cons}
use Rattle.std.proofs.Math.ListN.{drop_of_length-le}
use Rattle.std.proofs.lemmas.List.{append-nil}
use Rattle.std.proofs.lemmas.List.Sums.{sum_by-append}
use Rattle.std.specs.List.{count_by}
use Rattle.std.specs.Prelude.{cond}
use Rattle.logos_token.specs.Faults.{Fault}
use Rattle.logos_report.specs.declared.file_report.Refused.{Refused}
use Rattle.logos_page.specs.Pages.{PageValue}
use Rattle.logos_report.specs.Reports.{Shows}
use Rattle.logos_report.specs.Parts.{all_faults, part_texts, parts_texts, texts_from}
use Rattle.logos_report.specs.Locations.{SourceValue}
use Rattle.logos_report.proofs.ReportLemmas.{shows_nothing, shows_then}

next_left : (parts : List Refused) (i : ℕ) (d : Refused) → i < length parts → drop i parts ≡ get_or parts i d ∷ drop (i + 1) parts
next_left parts i d l =
    let k : suc i ≡ i + 1 = omega arith in
    drop-cons parts i d l ∙ ap (λ n. get_or parts i d ∷ drop n parts) k

front_next : (parts : List Refused) (i : ℕ) (d : Refused) → i < length parts → all_faults (take (suc i) parts) ≡ all_faults (take i parts) ++ (get_or parts i d).errors
front_next [] i d l = absurd (omega arith)
front_next (part ∷ parts) zero d l = append-nil part.errors
front_next (part ∷ parts) (suc i) d l =
    ap (λ list. part.errors ++ list) (front_next parts i d (omega arith)) ∙ sym (append_assoc part.errors (all_faults (take i parts)) (get_or parts i d).errors)

-- the faults of the parts in front, with those of the next one
pub front_more : (parts : List Refused) (i : ℕ) (d : Refused) → i < length parts → all_faults (take (i + 1) parts) ≡ all_faults (take i parts) ++ (get_or parts i d).errors
front_more parts i d l =
    let k : suc i ≡ i + 1 = omega arith in
    subst (λ n. all_faults (take n parts) ≡ all_faults (take i parts) ++ (get_or parts i d).errors) k (front_next parts i d l)

around_next : (parts : List Refused) (i : ℕ) (d : Refused) → i < length parts → all_faults parts ≡ all_faults (take i parts) ++ ((get_or parts i d).errors ++ all_faults (drop (suc i) parts))
around_next [] i d l = absurd (omega arith)
around_next (part ∷ parts) zero d l = refl
around_next (part ∷ parts) (suc i) d l =
    ap (λ list. part.errors ++ list) (around_next parts i d (omega arith)) ∙
    sym (append_assoc part.errors (all_faults (take i parts)) ((get_or parts i d).errors ++ all_faults (drop (suc i) parts)))

-- all faults: those of the parts in front, of one, and of the parts after it
pub around : (parts : List Refused) (i : ℕ) (one : Refused) → i < length parts → one ≡ get_or parts i one → all_faults parts ≡ all_faults (take i parts) ++ (one.errors ++ all_faults (drop (i + 1) parts))
around parts i one l e =
    let k : suc i ≡ i + 1 = omega arith in
    let all = subst (λ n. all_faults parts ≡ all_faults (take i parts) ++ ((get_or parts i one).errors ++ all_faults (drop n parts))) k (around_next parts i one l) in
    all ∙ ap (λ (x : Refused). all_faults (take i parts) ++ (x.errors ++ all_faults (drop (i + 1) parts))) (sym e)

-- the number of faults in two lists that pass a test
pub both_counted : (p : Fault → Bool) (one other : List Fault) → count_by p (one ++ other) ≡ count_by p one + count_by p other
both_counted p one other = sum_by-append (λ y. cond (p y) 1 0) one other

-- those of one part more in front
pub count_more : (p : Fault → Bool) (parts : List Refused) (i : ℕ) (d : Refused) → i < length parts →
    count_by p (all_faults (take (i + 1) parts)) ≡ count_by p (all_faults (take i parts)) + count_by p (get_or parts i d).errors
count_more p parts i d l = ap (count_by p) (front_more parts i d l) ∙ both_counted p (all_faults (take i parts)) (get_or parts i d).errors

end_counts : (p : Fault → Bool) (parts : List Refused) (i : ℕ) → count_by p (all_faults (drop i parts)) ≤ count_by p (all_faults parts)
end_counts p parts zero = omega arith
end_counts p [] (suc i) = omega arith
end_counts p (part ∷ parts) (suc i) =
    let below = end_counts p parts i in
    let all = both_counted p part.errors (all_faults parts) in
    omega (arith, below, all)

-- those of one part more at the end, but no more than 51
pub seen_more : (p : Fault → Bool) (parts : List Refused) (front : List Fault) (left next : ℕ) (d : Refused) (count seen new : ℕ) → left ≡ next + 1 → left ≤ length parts →
    count ≡ min (count_by p (all_faults (drop left parts) ++ front)) 51 → seen ≡ min (count_by p (get_or parts next d).errors) 51 → new ≡ min (count + seen) 51 →
    new ≡ min (count_by p (all_faults (drop next parts) ++ front)) 51
seen_more p parts front left next d count seen new e l a b c =
    let was = subst (λ n. count ≡ min (count_by p (all_faults (drop n parts) ++ front)) 51) e a in
    let afterward = both_counted p (all_faults (drop (next + 1) parts)) front in
    let here = ap (λ list. count_by p (all_faults list)) (next_left parts next d (omega (arith, e, l))) ∙ both_counted p (get_or parts next d).errors (all_faults (drop (next + 1) parts)) in
    let all = both_counted p (all_faults (drop next parts)) front in
    omega (arith, was, afterward, here, all, b, c)

-- all parts were examined, or enough faults had the code
pub seen_all : (p : Fault → Bool) (parts : List Refused) (front : List Fault) (left count : ℕ) → count ≡ min (count_by p (all_faults (drop left parts) ++ front)) 51 → (1 ≤ left → 51 ≤ count) →
    count ≡ min (count_by p (all_faults parts ++ front)) 51
seen_all p parts front zero count is past = is
seen_all p parts front (suc left) count is past =
    let below = end_counts p parts (suc left) in
    let some = both_counted p (all_faults (drop (suc left) parts)) front in
    let all = both_counted p (all_faults parts) front in
    let most = past (omega arith) in
    omega (arith, is, below, some, all, most)

-- the shown faults of the next part, and of those after it
pub part_then : (is_colored : Bool) (source : SourceValue) (parts : List Refused) (number : ℕ) (one : Refused) {old middle : PageValue} → number < length parts → one ≡ get_or parts number one →
    Shows (part_texts is_colored source (all_faults parts) (all_faults (take number parts)) one) old middle → (new : PageValue) → Shows (texts_from is_colored source parts (number + 1)) middle new → Shows (texts_from is_colored source parts number) old new
part_then is_colored source parts number one {old} {middle} l e s new t =
    let all = all_faults parts in
    let front = all_faults (take number parts) in
    let here = subst (λ x. Shows (part_texts is_colored source all front x) old middle) e s in
    let rest = subst (λ f. Shows (parts_texts is_colored source all f (drop (number + 1) parts)) middle new) (front_more parts number one l) t in
    subst (λ list. Shows (parts_texts is_colored source all front list) old new) (sym (next_left parts number one l)) (shows_then here rest)

-- the same with the colors that a page had before
pub then_as : (is_colored : Bool) (source : SourceValue) (parts : List Refused) (number : ℕ) (old middle : PageValue) → old.is_colored ≡ is_colored →
    ((new : PageValue) → Shows (texts_from old.is_colored source parts (number + 1)) middle new → Shows (texts_from old.is_colored source parts number) old new) →
    (new : PageValue) → Shows (texts_from is_colored source parts (number + 1)) middle new → Shows (texts_from is_colored source parts number) old new
then_as is_colored source parts number old middle e f =
    subst (λ c. (new : PageValue) → Shows (texts_from c source parts (number + 1)) middle new → Shows (texts_from c source parts number) old new) e f

-- no part is left
pub none_left : (is_colored : Bool) (source : SourceValue) (parts : List Refused) (number : ℕ) (page : PageValue) → length parts ≤ number → Shows (texts_from is_colored source parts number) page page
none_left is_colored source parts number page l =
    subst (λ list. Shows (parts_texts is_colored source (all_faults parts) (all_faults (take number parts)) list) page page) (sym (drop_of_length-le parts l)) (shows_nothing page)
