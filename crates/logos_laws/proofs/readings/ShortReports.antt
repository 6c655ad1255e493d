-- A report in which nothing is left out has the lines of each fault.
use Rattle.std.proofs.Common.{◌≡◌, ◌==◌, ◌≤◌, ◌<◌, ◌+◌, ℕ, Bool, true, false, ◌&&◌, if◌then◌else◌, List, [], ◌∷◌, ◌++◌, append_assoc, arith, nat_lt, refl, sym, ap, ◌∙◌}
use Rattle.std.proofs.lemmas.Bool.{lt-ltb}
use Rattle.std.proofs.lemmas.List.Sums.{sum_by-append, sum_by-cons}
use Rattle.std.proofs.lemmas.Slice.Eq.{bytes_eq-Decides}
use Rattle.std.specs.List.{count_by, flat_map}
use Rattle.std.specs.Prelude.{cond}
use Rattle.logos_report.specs.Codes.{is_ambiguity}
use Rattle.logos_report.specs.Faults.{counted_texts, explained_texts, has_name, left_out, listed_texts, rest_line, seen_of, texts_after}
use Rattle.logos_report.specs.Locations.{SourceValue, location_line}
use Rattle.logos_report.specs.Parts.{all_faults, parts_texts, refused_texts}
use Rattle.logos_report.specs.Sets.{NextValue, first_faults, next_after, starts_of}
use Rattle.logos_report.specs.declared.file_report.Refused.{Refused}
use Rattle.logos_token.specs.FaultNames.{name_of}
use Rattle.logos_token.specs.Faults.{Fault}
use Rattle.logos_laws.specs.readings.ShortReports.{AreFew, HaveNoSets, all_lines, lines_of}

-- one that has the code is counted
own_counts : (b : Bool) (n : ℕ) → b ≡ true → n < cond b 1 0 + n
own_counts true n e = omega arith
own_counts false n e = absurd cc

-- fewer than 50 faults before one of few have its code
few_before : (all front later : List Fault) (fault : Fault) → all ≡ front ++ fault ∷ later → AreFew all → count_by (has_name (name_of fault.code)) front < 50
few_before all front later fault e few =
    let p : Fault → Bool = has_name (name_of fault.code) in
    let own = own_counts (p fault) (count_by p later) ((bytes_eq-Decides (name_of fault.code) (name_of fault.code)).1 refl) in
    let whole : count_by p all ≡ count_by p front + count_by p (fault ∷ later) = ap (count_by p) e ∙ sum_by-append (λ y. cond (p y) 1 0) front (fault ∷ later) in
    let one : count_by p (fault ∷ later) ≡ cond (p fault) 1 0 + count_by p later = sum_by-cons (λ y. cond (p y) 1 0) fault later in
    let most : count_by p all ≤ 50 = few fault.code in
    omega (arith, own, whole, one, most)

-- so it is shown
shown : (is_colored : Bool) (source : SourceValue) (begin : ℕ) (starts : List ℕ) (all front later : List Fault) (next : NextValue) (fault : Fault) → all ≡ front ++ fault ∷ later → AreFew all →
    counted_texts is_colored source begin starts all front next fault ≡ listed_texts is_colored source begin starts next fault
shown is_colored source begin starts all front later next fault e few =
    let few_seen = few_before all front later fault e few in
    let seen : nat_lt (seen_of fault.code front) 50 ≡ true = lt-ltb (seen_of fault.code front) 50 (omega (arith, few_seen)) in
    ap (λ (b : Bool). if b then listed_texts is_colored source begin starts next fault else if seen_of fault.code front == 50 then rest_line is_colored fault.code (left_out fault.code all) ∷ [] else []) seen

-- without sets each fault has lines of its own
alone : (is_colored : Bool) (source : SourceValue) (begin : ℕ) (starts : List ℕ) (fault : Fault) → listed_texts is_colored source begin starts (first_faults []) fault ≡ explained_texts is_colored source begin starts fault
alone is_colored source begin starts fault = go (is_ambiguity fault.code)
  where
    go : (b : Bool) → (if b && false then location_line is_colored source begin fault.span.from ∷ [] else explained_texts is_colored source begin starts fault) ≡ explained_texts is_colored source begin starts fault
    go true = refl
    go false = refl

still : (fault : Fault) → next_after (first_faults []) fault ≡ first_faults []
still fault = go (is_ambiguity fault.code)
  where
    go : (b : Bool) → (if b then first_faults [] else first_faults []) ≡ first_faults []
    go true = refl
    go false = refl

-- the faults of a part, after those in front
part_shown : (is_colored : Bool) (source : SourceValue) (begin : ℕ) (starts : List ℕ) (all front faults later : List Fault) → all ≡ front ++ (faults ++ later) → AreFew all →
    texts_after is_colored source begin starts all front (first_faults []) faults ≡ flat_map (explained_texts is_colored source begin starts) faults
part_shown is_colored source begin starts all front [] later e few = refl
part_shown is_colored source begin starts all front (fault ∷ faults) later e few =
    let first = shown is_colored source begin starts all front (faults ++ later) (first_faults []) fault e few ∙ alone is_colored source begin starts fault in
    let rest = part_shown is_colored source begin starts all (front ++ fault ∷ []) faults later (e ∙ sym (append_assoc front (fault ∷ []) (faults ++ later))) few in
    ap (λ (x : List (List ℕ)). x ++ texts_after is_colored source begin starts all (front ++ fault ∷ []) (next_after (first_faults []) fault) faults) first
    ∙ ap (λ (next : NextValue). explained_texts is_colored source begin starts fault ++ texts_after is_colored source begin starts all (front ++ fault ∷ []) next faults) (still fault)
    ∙ ap (λ (x : List (List ℕ)). explained_texts is_colored source begin starts fault ++ x) rest

-- the parts after those in front
parts_shown : (is_colored : Bool) (source : SourceValue) (all front : List Fault) (parts : List Refused) → all ≡ front ++ all_faults parts → AreFew all → HaveNoSets parts →
    parts_texts is_colored source all front parts ≡ all_lines is_colored source parts
parts_shown is_colored source all front [] e few none = refl
parts_shown is_colored source all front (part ∷ parts) e few none =
    let first = ap (λ (sizes : List ℕ). texts_after is_colored source part.offset (starts_of part.clues) all front (first_faults sizes) part.errors) none.0 ∙ part_shown is_colored source part.offset (starts_of part.clues) all front part.errors (all_faults parts) e few in
    let rest = parts_shown is_colored source all (front ++ part.errors) parts (e ∙ sym (append_assoc front part.errors (all_faults parts))) few none.1 in
    ap (λ (x : List (List ℕ)). x ++ parts_texts is_colored source all (front ++ part.errors) parts) first ∙ ap (λ (x : List (List ℕ)). lines_of is_colored source part ++ x) rest

pub whole : (is_colored : Bool) (source : SourceValue) (parts : List Refused) → HaveNoSets parts → AreFew (all_faults parts) → refused_texts is_colored source parts ≡ all_lines is_colored source parts
whole is_colored source parts none few = parts_shown is_colored source (all_faults parts) [] parts refl few none
