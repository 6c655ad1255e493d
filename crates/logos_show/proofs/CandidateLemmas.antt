-- The candidates for a name.
use Rattle.std.proofs.Common.{◌≡◌, ◌<◌, ◌≤◌, ◌+◌, ◌++◌, ◌⊎◌, ◌↔◌, ℕ, suc, Bool, true, false, IsTrue, All, List, [], ◌∷◌, append_assoc, length, get_or, drop, inl, inr, sym, ap, ◌∙◌, arith, subst}
use Rattle.std.proofs.lemmas.List.{append-nil, get_or_default}
use Rattle.std.proofs.Math.Seq.{drop-cons}
use Rattle.std.proofs.Math.ListN.{drop_of_length-le}
use Rattle.logos_show.specs.Candidates.{AddsCandidate, AreCandidates, path_in}
use Rattle.logos_show.specs.Candidates.AreCandidates.{no_enum, passed, added}
use Rattle.logos_rust_file.specs.Paths.{IsPathOf}
use Rattle.logos_show.specs.declared.candidates.Candidate.{Candidate}
use Rattle.logos_rust_file.specs.declared.finder.FoundEnum.{FoundEnum}

-- ---- a search

-- none of the elements before an index is one of these
abbrev pub NoneBefore : {A : Type 0} → (A → Type 0) → List A → ℕ → Type 0
NoneBefore P xs i = (k : ℕ) (d : _) → k < i → ¬ P (get_or xs k d)

pub none_first : {A : Type 0} (P : A → Type 0) (xs : List A) → NoneBefore P xs 0
none_first P xs = λ k d l. absurd (omega (arith, l))

pub none_next : {A : Type 0} (P : A → Type 0) (xs : List A) (i : ℕ) (x : A) → i < length xs → ¬ P (get_or xs i x) → NoneBefore P xs i → NoneBefore P xs (i + 1)
none_next P xs i x inside is before = λ k d l. go k d (grind arith)
  where
    go : (k : ℕ) (d : _) → (k < i) ⊎ (k ≡ i) → ¬ P (get_or xs k d)
    go k d (inl l) = before k d l
    go k d (inr e) = λ p. is (subst P (get_or_default xs i d x inside) (subst (λ n. P (get_or xs n d)) e p))

-- the same of the element with this index
pub none_next_at : {A : Type 0} (P : A → Type 0) (xs : List A) (i : ℕ) (x : A) → i < length xs → x ≡ get_or xs i x → ¬ P x → NoneBefore P xs i → NoneBefore P xs (i + 1)
none_next_at P xs i x inside same is before = none_next P xs i x inside (λ p. is (subst P (sym same) p)) before

pub none_all : {A : Type 0} (P : A → Type 0) (xs : List A) (i : ℕ) → length xs ≤ i → NoneBefore P xs i → All (λ x. ¬ P x) xs
none_all P xs i all before = λ k d l. before k d (omega (arith, l, all))

-- ---- the candidates

-- the enums before an index were considered: with the candidates among the others, these are the
-- candidates of all
abbrev pub SoFar : List ℕ → List FoundEnum → List FoundEnum → List Candidate → Type 0
SoFar text found left candidates = (more : List Candidate) → AreCandidates text left more → AreCandidates text found (candidates ++ more)

pub begun : (text : List ℕ) (found : List FoundEnum) (candidates : List Candidate) → candidates ≡ [] → SoFar text found found candidates
begun text found candidates e = λ more are. rw e are

next_left : (found : List FoundEnum) (i : ℕ) (d : FoundEnum) → i < length found → drop i found ≡ get_or found i d ∷ drop (i + 1) found
next_left found i d l =
    let k : suc i ≡ i + 1 = omega arith in
    drop-cons found i d l ∙ ap (λ n. get_or found i d ∷ drop n found) k

pub further : (text : List ℕ) (found : List FoundEnum) (i : ℕ) (d : FoundEnum) (old new : List Candidate) → i < length found → SoFar text found (drop i found) old → AddsCandidate text (get_or found i d) old new →
    SoFar text found (drop (i + 1) found) new
further text found i d old new l so a = λ more are.
    subst (AreCandidates text found) (sym (ap (λ x. x ++ more) a.is ∙ append_assoc old a.added more))
    (so (a.added ++ more) (subst (λ left. AreCandidates text left (a.added ++ more)) (sym (next_left found i d l)) (a.completes (drop (i + 1) found) more are)))

pub ended : (text : List ℕ) (found : List FoundEnum) (i : ℕ) (candidates : List Candidate) → length found ≤ i → SoFar text found (drop i found) candidates → AreCandidates text found candidates
ended text found i candidates l so =
    subst (AreCandidates text found) (append-nil candidates) (so [] (subst (λ left. AreCandidates text left []) (sym (drop_of_length-le found l)) no_enum))

pub passes_one : (text : List ℕ) (one : FoundEnum) (old : List Candidate) → one.derives ≡ false → AddsCandidate text one old old
passes_one text one old e = record { added = []; is = sym (append-nil old); completes = λ found candidates are. passed e are }

pub adds_one : (text : List ℕ) (candidate : Candidate) (old new : List Candidate) → candidate.found.derives ≡ true → IsPathOf text candidate.found (path_in candidate) → new ≡ old ++ candidate ∷ [] → AddsCandidate text candidate.found old new
adds_one text candidate old new e path is = record { added = candidate ∷ []; is = is; completes = λ found candidates are. added e path are }

-- a test that fails
pub not_so : {P : Type 0} (r : Bool) → r ≡ false → (IsTrue r ↔ P) → ¬ P
not_so r f h = λ p. let t : r ≡ true = h.1 p in absurd cc
